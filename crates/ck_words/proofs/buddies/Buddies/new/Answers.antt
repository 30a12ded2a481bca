use Rattle.ck_words.proofs.Opening.{zeros_at, zeros_long, opening, opened}
use Rattle.ck_words.proofs.buddies.Buddies.new.Goals as goal

pub invariant_of-result : goal.invariant_of-result
invariant_of-result c =
    let zeros = c.in_ok-vec.ensures.items_if_clones_equal (λ _ e. e) in
    opening c.in_ok-vec.field-0.items (zeros_at c.args.log_len c.args.log_min _ c.requires.most zeros)
    c.args.first c.args.log_len c.args.log_min c.requires.whole c.words_of.result
    c.requires.least c.requires.most c.requires.place (zeros_long c.args.log_len c.args.log_min _ c.requires.most zeros) c.words_of.ensures

pub returns : goal.returns
returns c =
    let zeros = c.in_ok-vec.ensures.items_if_clones_equal (λ _ e. e) in
    opened c.in_ok-vec.field-0.items (zeros_at c.args.log_len c.args.log_min _ c.requires.most zeros)
    c.args.first c.args.log_len c.args.log_min c.requires.whole

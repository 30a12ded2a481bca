use Rattle.ck_script.proofs.Prefixes.{set_prefix, put_prefix, del_prefix}
use Rattle.ck_script.proofs.script_line.UpLineUpdateScriptLine.read_prefix.Goals as goal

pub returns-in_ok-key : goal.returns-in_ok-key
returns-in_ok-key g c = set_prefix g.K.KeyWord.is_key g.K.KeyWord.spelling g.met.K.KeyWord.one_word c.args.text.now c.in_ok-key.n c.if-text-lt4.false c.in_ok-key.key c.in_ok-key.value (c.begins.ensures c.if-begins.true) (rw c.split_at.ensures.back at c.in_ok-key.ensures)

pub returns-in_ok-key-2 : goal.returns-in_ok-key-2
returns-in_ok-key-2 g c = put_prefix g.K.KeyWord.is_key g.K.KeyWord.spelling g.met.K.KeyWord.one_word c.args.text.now c.in_ok-key-2.n c.if-text-lt4.false c.in_ok-key-2.key c.in_ok-key-2.value (c.begins-else-begins.ensures c.if-begins-2.true) (rw c.split_at.ensures.back at c.in_ok-key-2.ensures)

pub returns-in_ok-key-3 : goal.returns-in_ok-key-3
returns-in_ok-key-3 g c = del_prefix g.K.KeyWord.is_key g.K.KeyWord.spelling g.met.K.KeyWord.one_word c.args.text.now c.in_ok-key-3.n c.if-text-lt4.false c.in_ok-key-3.key (c.begins-else-begins-2.ensures c.if-begins-3.true) (rw c.split_at.ensures.back at c.in_ok-key-3.ensures)

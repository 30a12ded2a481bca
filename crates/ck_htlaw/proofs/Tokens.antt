-- A step of a token on the table's words, and what its account tells then.
use Rattle.std.proofs.Common.{◌≡◌, ℕ, ◌+◌, ◌<◌, ◌≤◌, true, List, [], ◌∷◌, refl, ap, ◌∙◌, arith}
use Rattle.std.proofs.lemmas.Bool.Decides.{nat_tests}
use Rattle.ck_run.specs.declared.account.Step.{Step}
use Rattle.ck_run.specs.declared.account.Entry.{Entry}
use Rattle.ck_run.specs.Range.{word_of}
use Rattle.ck_run.specs.Machine.{state_after}
use Rattle.ck_run.specs.Tokens.{adding, did}
use Rattle.ck_run.proofs.Law.{state-append}
use Rattle.ck_epoch.specs.State.{Origin, Token, base_of}
use Rattle.ck_htlaw.specs.Host.{Host, lies}
use Rattle.ck_htlaw.specs.Table.{Layout, is_table_word}
use Rattle.ck_htlaw.specs.Client.{Answers, answers_next, table_next}
use Rattle.ck_htlaw.specs.Known.{knows}

-- the state that answers are told by
pub local_after_all : (l : Layout) (a : Answers) (es : List Entry) → (state_after (answers_next l) a es).local ≡ state_after (table_next l) a.local es
local_after_all l a [] = refl
local_after_all l a (e ∷ es) = local_after_all l (answers_next l a e) es

pub is_inside : (l : Layout) (s : Step) → l.base ≤ word_of s → word_of s < l.base + l.size → is_table_word l s ≡ true
is_inside l s low high = grind (arith, nat_tests)

module _ {D : Type 0} (h : Host D) (o : Origin D) where
  -- what an account tells after one entry more
  pub knows_next : (t u : Token D) (e : Entry) → u ≡ adding t (e ∷ []) → knows h o u ≡ answers_next (lies h o) (knows h o t) e
  knows_next t u e made = ap (knows h o) made ∙ state-append (answers_next (lies h o)) _ (did t) (e ∷ [])

  -- the word of the domain at which a word of the table lies
  pub word_is : (b c at : ℕ) → b ≡ c → c ≡ h.place o.config.client → base_of o + (b + at) ≡ (lies h o).base + at
  word_is b c at e f = omega arith

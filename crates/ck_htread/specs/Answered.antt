-- The answered looks of a reader in a run, and their places among the updates.
use Rattle.std.specs.Prelude.{◌≡◌, ℕ, suc, Option, List, [], ◌∷◌, ◌++◌, map}
use Rattle.std.specs.Ordering.{nat_cmp}
use mathlib.Core.Option.{some}
use lib.ListN.{get_elem?}
use Rattle.ck_run.specs.declared.account.Entry.{Entry}
use Rattle.ck_run.specs.Run.{Run, account}
use Rattle.ck_run.specs.Tokens.{number, did, adding}
use Rattle.ck_history.specs.declared.log.Look.{Look}
use Rattle.ck_history.specs.Map.{find, after}
use Rattle.ck_epoch.specs.State.{Origin, Token}
use Rattle.ck_epoch.specs.Calls.{rec_of}
use Rattle.ck_events.specs.Answered.{IsAnsweredCall, ArePlaces}
use Rattle.ck_htlaw.specs.Actions.{most}
use Rattle.ck_htlaw.specs.Client.{answers_after, look_ends}
use Rattle.ck_htlaw.specs.Host.{Host, lies}
use Rattle.ck_htlaw.specs.Linearized.{updates}
use Rattle.ck_htlaw.specs.Look.{no_look}
use Rattle.ck_htlaw.specs.Law.{IsTableRun, IsLook, GaveWithin, local_in, updates_in, linearized, map_in, look_state_of, until}
use Rattle.ck_htread.specs.Reading.{look_result}

-- steps of one token, with no other token's between them
abbrev pub steps_of : ℕ → List Entry → Run
steps_of n es = map (λ e. (n, e)) es

-- The steps that the token made from t to u stand together in this run, after `past`: no other token's step is between the first of them and the last
pub record StandTogether {D : Type 0} (t u : Token D) (past run : Run) : Type 0 where
  pub steps : List Entry
  pub rest : Run
  pub made : u ≡ adding t steps
  pub before : account (number t) past ≡ did t
  pub splits : run ≡ past ++ (steps_of (number t) steps ++ rest)

module _ {D : Type 0} (host : Host D) (origin : Origin D) where
  -- the answered looks of the reader r in this run, each with its key and its answer
  abbrev pub looks_in : Run → ℕ → List (ℕ × Option ℕ)
  looks_in run r = (answers_after (lies host origin) origin.words (suc r) (account (suc r) run)).looks

  -- it is between two looks
  abbrev pub IsOut : ℕ → Run → Type 0
  IsOut r run = look_state_of (local_in host origin run (suc r)) ≡ no_look

  -- The reader r gave its answer with the number i, from 0, by this look of the run
  pub record IsAnsweredLook (run : Run) (r i k : ℕ) (x : Option ℕ) : Type 0 where
    pub call : IsAnsweredCall (suc r) (IsOut r) (λ past. looks_in past r) run i (k, x)
    pub look : IsLook host origin call.past r call.first call.between call.last
    pub answers : look_ends (look_state_of (local_in host origin (until call.past r call.first call.between) (suc r))) call.last.step ≡ (k, x) ∷ []

  -- and p updates had taken place at a moment of that look at which the map gave this answer
  pub record HasPlace (run : Run) (r i k : ℕ) (x : Option ℕ) (p : ℕ) : Type 0 where
    pub answered : IsAnsweredLook run r i k x
    pub moment : GaveWithin host origin answered.call.past r answered.call.first answered.call.between k x
    pub is : linearized host origin (until answered.call.past r answered.call.first moment.before) ≡ p

  -- The places of the answers of the reader r. Each is that of a moment of its look at which the map gave it, and so the answer is that of
  -- the map after so many of the updates that have taken place
  pub record HavePlaces (run : Run) (r : ℕ) (places : ℕ → ℕ) : Type 0 where
    pub are : ArePlaces (suc r) (IsOut r) (λ past. looks_in past r) (linearized host origin) (λ i answer p. HasPlace run r i answer.0 answer.1 p) run places
    pub gave : (i k : ℕ) (x : Option ℕ) → get_elem? (looks_in run r) i ≡ some (k, x) → find nat_cmp (after nat_cmp most (updates (updates_in host origin run)) (places i)) k ≡ x

  -- In every true run the answers of each reader have places
  abbrev pub PlacesLaw : Type 0
  PlacesLaw = (run : Run) (r : ℕ) → IsTableRun host origin run → (places : ℕ → ℕ) × HavePlaces run r places

  -- In every true run in which the token has made these steps, and maybe more, its answer with the number i is this one, and has a place
  abbrev pub HasAnswered : Token D → ℕ → ℕ → Option ℕ → Type 0
  HasAnswered t i k x = (run : Run) (more : List Entry) → IsTableRun host origin run → account (number t) run ≡ did t ++ more → (p : ℕ) × HasPlace run (rec_of t) i k x p

  -- In every true run in which the steps of this look of the key, from t to u, stand together, it answers, and what the map gives then: the map after the
  -- updates that have taken place before its first step. So it does in each true run in which no two calls overlap
  abbrev pub AnswersAlone : Token D → ℕ → Look → Token D → Type 0
  AnswersAlone t key result u = (past run : Run) → IsTableRun host origin run → StandTogether t u past run → result ≡ look_result (find nat_cmp (map_in host origin past) key)

-- What the writer stores, in a domain whose client holds the table, and where each step leaves it.
use Rattle.std.specs.Prelude.{◌≡◌, ℕ, true, List, [], ◌∷◌, map}
use Rattle.ck_run.specs.declared.account.Step.{Step}
use Rattle.ck_run.specs.declared.account.Entry.{Entry}
use Rattle.ck_run.specs.Run.{entry, further, words_after}
use Rattle.ck_run.specs.Machine.{state_after}
use Rattle.ck_run.specs.Tokens.{adding}
use Rattle.ck_epoch.specs.State.{Origin, Token, state}
use Rattle.ck_epoch.specs.Ends.{Writer, IsDomainToken}
use Rattle.ck_history.specs.declared.log.LogEntry.{LogEntry}
use Rattle.ck_htlaw.specs.Host.{Host, inner, lies}
use Rattle.ck_htlaw.specs.Layout.{counters_of, IsFreeRegion}
use Rattle.ck_htlaw.specs.Table.{Layout, WriterState, writer, second, is_table_word, MayWriterStep, GoesOn}
use Rattle.ck_htlaw.specs.Actions.{action}
use Rattle.ck_htlaw.specs.Invariant.{IsTaking}
use Rattle.ck_htlaw.specs.Client.{Answers, answers_next}
use Rattle.ck_htlaw.specs.Known.{knows}

-- A step that the writer may make next, where each region that it takes by it is free
pub record IsNextStep (l : Layout) (Free : ℕ → Type 0) (p : WriterState) (e : Entry) : Type 0 where
  pub may : MayWriterStep l p (action l p e) p.stage e.step
  pub goes : GoesOn p.stage e.opens
  pub takes : (root : ℕ) → IsTaking (action l p e) p.stage root → Free root

-- the writer after a step on one of the table's words
abbrev pub writer_after : Layout → WriterState → Entry → WriterState
writer_after l p e = record (second l e.opens p (action l p e) p.stage) { words = words_after p.words e.step }

-- A step on a word of the table that the writer may make next, and that takes no region
pub record IsPlainStep (l : Layout) (p : WriterState) (e : Entry) : Type 0 where
  pub own : is_table_word l e.step ≡ true
  pub may : MayWriterStep l p (action l p e) p.stage e.step
  pub goes : GoesOn p.stage e.opens
  pub takes_none : (root : ℕ) → IsTaking (action l p e) p.stage root → ⊥

-- and so is each of these, one after the other
abbrev pub CanMake : Layout → WriterState → List Entry → Type 0
CanMake l p [] = Unit {0}
CanMake l p (e ∷ es) = IsPlainStep l p e × CanMake l (writer_after l p e) es

-- the first of these steps opens a call
abbrev pub opened : List ℕ → List Step → List Entry
opened opens [] = []
opened opens (s ∷ ss) = entry opens s ∷ map further ss

-- The writer stands there, its call answers `due`, and `told` is what it answered before
pub record WriterAt (a : Answers) (p : WriterState) (due : LogEntry ℕ) (told : List (LogEntry ℕ)) : Type 0 where
  pub local : a.local ≡ writer p
  pub answer : a.due ≡ due
  pub log : a.log ≡ told

module _ {D : Type 0} (h : Host D) (origin : Origin D) where
  -- how many counters the table has
  abbrev pub counters_in : ℕ
  counters_in = counters_of (inner h origin).config.client

  -- by its account the writer stands there
  abbrev pub WriterIs : Token D → WriterState → Type 0
  WriterIs t p = (knows h origin t).local ≡ writer p

  -- the regions that are free by the writer's account
  abbrev pub IsFreeBy : Token D → WriterState → ℕ → Type 0
  IsFreeBy t p root = IsFreeRegion counters_in (h.place origin.config.client) p.root root (state t).pending

  -- a step that the writer may make next
  abbrev pub MayStep : Token D → Entry → Type 0
  MayStep t e = (p : WriterState) × WriterIs t p × IsNextStep (lies h origin) (IsFreeBy t p) p e

  -- steps that the writer may make next
  abbrev pub MayMake : Token D → List Entry → Type 0
  MayMake t es = (p : WriterState) × WriterIs t p × CanMake (lies h origin) p es

  -- The writer made these steps, and nothing else of its token's end changed. What was retired is pending or dispatched as before
  pub record Steps {F : Type 0} (w : Writer D F) (es : List Entry) (w' : Writer D F) : Type 0 where
    pub made : w' ≡ record w { token = adding w.token es }
    pub knows_now : knows h origin w'.token ≡ state_after (answers_next (lies h origin)) (knows h origin w.token) es
    pub is_token : IsDomainToken h.client w'.token
    pub same : ((state w'.token).pending ≡ (state w.token).pending) × ((state w'.token).dispatched ≡ (state w.token).dispatched)

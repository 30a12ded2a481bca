-- What the pool sees of the ends of a structure in a domain with signals.
use Rattle.std.specs.Prelude.{Bool, ◌≡◌, ◌<◌, List}
use Rattle.ck_words.specs.declared.back.Back.{Back}
use Rattle.ck_run.specs.Tokens.{Table, table}
use Rattle.ck_epoch.specs.declared.about.About.{About}
use Rattle.ck_epoch.specs.declared.item.Item.{Item}
use Rattle.ck_epoch.specs.State.{Origin, depth}
use Rattle.ck_epoch.specs.Calls.{rec_of}
use Rattle.ck_epoch.specs.Ends.{Writer, Pass}
use Rattle.ck_epoch.specs.Lists.{Answers}
use Rattle.ck_signal.specs.declared.signals.Signals.{Signals}
use Rattle.ck_signal.specs.Signals.{readers}
use Rattle.ck_history.specs.declared.event.ReaderEvent.{ReaderEvent}
use Rattle.ck_pool.specs.Meaning.{EyeMeaning}

-- what contracts see of the structure
abbrev pub Structure : Type 0 → Type 0
Structure C = Table (About (Signals C))

module _ {C : Type 0} where
  -- The writer was made with this structure, and its handler answers the home of each item that may be retired. That it is between two
  -- updates is always so
  pub record IsWriterOf {F : Type 0} (retires : Item → Bool) (home : Item → Back) (pre : F → Item → Type 0) (post : F → Item → Back → Type 0) (s : Structure C) (w : Writer (Signals C) F) : Type 0 where
    pub made : table w.token ≡ s
    pub handler : Answers retires home (pre w.handler) (post w.handler)

  -- The pass was made with this structure, is between two of its calls, and no section of it is open
  pub record IsPassOf (IsReady : Origin (Signals C) → Pass (Signals C) → Type 0) (s : Structure C) (p : Pass (Signals C)) : Type 0 where
    pub made : table p.token ≡ s
    pub is_ready : IsReady s.origin p
    pub closed : depth p.token ≡ 0
    pub reader : rec_of p.token < readers s.origin

  -- what the pool sees of the passes, whose events are `done`
  abbrev pub eye_of : {A B : Type 0} → (Origin (Signals C) → Pass (Signals C) → Type 0) → (Pass (Signals C) → List (ReaderEvent A B)) → Structure C → EyeMeaning (Pass (Signals C)) A B
  eye_of IsReady done s = record { ready = λ p. IsPassOf IsReady s p; number = λ p. rec_of p.token; calls = λ p. p.calls; done = done }

-- What the pool sees of a snapshot dictionary.
use Rattle.std.specs.Prelude.{ℕ, List, [], ◌∷◌, Option}
use Rattle.ck_history.specs.declared.update.Update.{Update}
use Rattle.ck_history.specs.declared.update.Reply.{Reply}
use Rattle.ck_snap.specs.Log.{Log}
use Rattle.ck_snap.specs.Places.{ArePlacedIn}
use Rattle.ck_snap.specs.Tokens.{Dictionary, WriterView, PassView, IsWriterOf, IsPassOf}
use Rattle.ck_pool.specs.Meaning.{HandMeaning, EyeMeaning}

-- what the pool sees of the ends of a snapshot dictionary, in which there is always room
abbrev pub snap_hand : Dictionary → HandMeaning WriterView (Update ℕ) Reply
snap_hand snap = record { ready = λ w. IsWriterOf snap w; calls = λ w. w.calls; done = λ w. w.done; fits = λ w call. Unit {0} }

abbrev pub snap_eye : Dictionary → EyeMeaning PassView ℕ (Option ℕ)
snap_eye snap = record { ready = λ p. IsPassOf snap p; number = λ p. p.number; calls = λ p. p.calls; done = λ p. p.done }

-- each pass is tied to this log: its answers have places in it
abbrev pub AllPlacedIn : Log → List PassView → Type 0
AllPlacedIn log [] = Unit {0}
AllPlacedIn log (p ∷ ps) = ArePlacedIn log p.done p.places × AllPlacedIn log ps

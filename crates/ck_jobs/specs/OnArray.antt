-- What the pool sees of an array's ends.
use Rattle.std.specs.Prelude.{ℕ, List}
use Rattle.ck_words.specs.declared.back.Back.{Back}
use Rattle.ck_epoch.specs.declared.item.Item.{Item}
use Rattle.ck_epoch.specs.Ends.{Pass}
use Rattle.ck_signal.specs.declared.signals.Signals.{Signals}
use Rattle.ck_history.specs.declared.edit.Edit.{Edit}
use Rattle.ck_history.specs.declared.edit.EditReply.{EditReply}
use Rattle.ck_arraylaw.specs.declared.client.ArrayClient.{ArrayClient}
use Rattle.ck_arraylaw.specs.Client.{is_region, home_of}
use Rattle.ck_array.specs.Ends.{ArrayWriter, IsPassReady}
use Rattle.ck_array.specs.Events.{pass_events, hand_events}
use Rattle.ck_pool.specs.Meaning.{HandMeaning, EyeMeaning}
use Rattle.ck_jobs.specs.Ends.{Structure, IsWriterOf, eye_of}

abbrev pub SharedList : Type 0
SharedList = Structure ArrayClient

abbrev pub IsArrayWriter : {F : Type 0} → (F → Item → Type 0) → (F → Item → Back → Type 0) → SharedList → ArrayWriter F → Type 0
IsArrayWriter pre post a w = IsWriterOf (λ item. is_region item) (λ item. home_of item) pre post a w.writer

-- what the pool sees of the ends. There is room for every edit: one for which there is none is answered Full
abbrev pub writer_hand : {F : Type 0} → (F → Item → Type 0) → (F → Item → Back → Type 0) → SharedList → HandMeaning (ArrayWriter F) Edit EditReply
writer_hand pre post a = record {
  ready = λ w. IsArrayWriter pre post a w;
  calls = λ w. w.writer.calls;
  done = λ w. hand_events a.origin w.writer.token;
  fits = λ w call. Unit {0};
}

abbrev pub pass_eye : SharedList → EyeMeaning (Pass (Signals ArrayClient)) (Unit {0}) (List ℕ)
pass_eye a = eye_of IsPassReady (λ p. pass_events a.origin p.token) a

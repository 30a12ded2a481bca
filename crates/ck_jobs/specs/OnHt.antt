-- What the pool sees of a hash table's ends.
use Rattle.std.specs.Prelude.{true, ℕ, [], ◌∷◌, ◌++◌, length, Option}
use Rattle.std.specs.Ordering.{nat_cmp}
use Rattle.ck_words.specs.declared.back.Back.{Back}
use Rattle.ck_epoch.specs.declared.item.Item.{Item}
use Rattle.ck_epoch.specs.Ends.{Pass}
use Rattle.ck_signal.specs.declared.signals.Signals.{Signals}
use Rattle.ck_history.specs.declared.update.Update.{Update}
use Rattle.ck_history.specs.declared.update.Reply.{Reply}
use Rattle.ck_history.specs.Events.{updates_in}
use Rattle.ck_history.specs.Map.{after_from}
use Rattle.ck_htlaw.specs.declared.client.HtClient.{HtClient}
use Rattle.ck_htlaw.specs.Actions.{most}
use Rattle.ck_htlaw.specs.Client.{home_of}
use Rattle.ck_ht.specs.Ends.{HtWriter, IsPassReady}
use Rattle.ck_ht.specs.Events.{Writing, pass_events, hand_events}
use Rattle.ck_ht.specs.Room.{HasRoomFor}
use Rattle.ck_pool.specs.Meaning.{HandMeaning, EyeMeaning}
use Rattle.ck_jobs.specs.Ends.{Structure, IsWriterOf, eye_of}

abbrev pub HashTable : Type 0
HashTable = Structure HtClient

abbrev pub IsTableWriter : {F : Type 0} → (F → Item → Type 0) → (F → Item → Back → Type 0) → HashTable → HtWriter F → Type 0
IsTableWriter pre post h w = IsWriterOf (λ item. true) (λ item. home_of item) pre post h w.writer

-- the arena has room for the map after these events and this update, whether it adds a pair or not
abbrev pub HasRoomAfter : HashTable → Writing → Update ℕ → Type 0
HasRoomAfter h events call = HasRoomFor h.origin.config.client.client.arena_log (length (after_from nat_cmp most [] (updates_in events ++ call ∷ [])))

-- what the pool sees of the ends
abbrev pub writer_hand : {F : Type 0} → (F → Item → Type 0) → (F → Item → Back → Type 0) → HashTable → HandMeaning (HtWriter F) (Update ℕ) Reply
writer_hand pre post h = record {
  ready = λ w. IsTableWriter pre post h w;
  calls = λ w. w.writer.calls;
  done = λ w. hand_events h.origin w.writer.token;
  fits = λ w call. HasRoomAfter h (hand_events h.origin w.writer.token) call;
}

abbrev pub pass_eye : HashTable → EyeMeaning (Pass (Signals HtClient)) ℕ (Option ℕ)
pass_eye h = eye_of IsPassReady (λ p. pass_events h.origin p.token) h

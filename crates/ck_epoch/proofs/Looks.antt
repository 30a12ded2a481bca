-- What a scan found of the records that it passed, and its steps, with one record more.
use Rattle.std.proofs.Common.{◌≡◌, ◌≢◌, ℕ, ◌+◌, Bool, cond, eq-eqb, ne_eqb, Option, Some, None, List, [], ◌∷◌, ◌++◌, map, length, length-append, refl, sym, ap, ◌∙◌, subst, arith}
use Rattle.std.specs.Option.{unwrap_or}
use Rattle.std.proofs.lemmas.List.{append_assoc, map-append, append-nil}
use Rattle.std.proofs.lemmas.List.Elements.{All-push, All-nil, All-append, All-cons}
use Rattle.ck_run.specs.declared.account.Step.{Step}
use Rattle.ck_run.specs.declared.account.Step.TheVariants.{Load}
use Rattle.ck_run.specs.declared.account.Entry.{Entry}
use Rattle.ck_run.specs.Run.{entry, further, call}
use Rattle.ck_run.specs.Rule.{Follows}
use Rattle.ck_run.specs.Tokens.{Seat, adding, Makes}
use Rattle.ck_run.proofs.Moments.{adds_one}
use Rattle.ck_epoch.specs.State.{active_word, epoch_word, first_busy}
use Rattle.ck_epoch.specs.Calls.{RecordLook, look_steps, scan_steps, AreInactive, AreCurrent}
use Rattle.ck_epoch.specs.Scan.{IsFirstFound}

scan_more : (rec : ℕ) (ls : List RecordLook) (l : RecordLook) → scan_steps rec (ls ++ l ∷ []) ≡ scan_steps rec ls ++ look_steps (rec + length ls) l
scan_more rec [] l = append-nil (look_steps rec l) ∙ ap (λ (k : ℕ). look_steps k l) (omega arith)
scan_more rec (x ∷ ls) l = ap (λ (ss : List Step). look_steps rec x ++ ss) (scan_more (rec + 1) ls l ∙ ap (λ (k : ℕ). scan_steps (rec + 1) ls ++ look_steps k l) (omega arith))
    ∙ sym (append_assoc (look_steps rec x) (scan_steps (rec + 1) ls) (look_steps (rec + length (x ∷ ls)) l))

-- a step more of the call
pub call_more : (name : ℕ) (arguments : List ℕ) (s : Step) (ss ts : List Step) → call name arguments (s ∷ ss) ++ map further ts ≡ call name arguments (s ∷ ss ++ ts)
call_more name arguments s ss ts = ap (λ (es : List Entry). entry (name ∷ arguments) s ∷ es) (sym (map-append further ss ts))

pub one_more : (rec : ℕ) (ls : List RecordLook) (l : RecordLook) → length ls ≡ rec → length (ls ++ l ∷ []) ≡ rec + 1
one_more rec ls l count = length-append ls (l ∷ []) ∙ ap (λ (k : ℕ). k + 1) count

-- the steps of the call of this name that goes through the records, with one record more
module _ {C : Type 0} (P : Follows C) (t u : Seat C) (name e rec : ℕ) (looked : List RecordLook) (count : length looked ≡ rec) (did : u ≡ adding t (call name [] (Load 0 e ∷ scan_steps 0 looked))) where
  did_more : (v : Seat C) (l : RecordLook) (ts : List Step) → v ≡ adding t (call name [] (Load 0 e ∷ scan_steps 0 looked) ++ map further ts) → ts ≡ look_steps rec l
      → v ≡ adding t (call name [] (Load 0 e ∷ scan_steps 0 (looked ++ l ∷ [])))
  did_more v l ts h is = h ∙ ap (adding t)
      (call_more name [] (Load 0 e) (scan_steps 0 looked) ts
      ∙ ap (λ (ss : List Step). call name [] (Load 0 e ∷ ss))
      (ap (λ (k : List Step). scan_steps 0 looked ++ k) (is ∙ ap (λ (k : ℕ). look_steps k l) (let c = count in omega arith)) ∙ sym (scan_more 0 looked l)))

  module _ (v : Seat C) (w n : ℕ) (w_is : w ≡ active_word rec) (made : Makes P u (further (Load w n)) v) where
    seen : v ≡ adding t (call name [] (Load 0 e ∷ scan_steps 0 looked) ++ further (Load (active_word rec) n) ∷ [])
    seen = adds_one P t u v (call name [] (Load 0 e ∷ scan_steps 0 looked)) (further (Load w n)) did made
        ∙ ap (λ (k : ℕ). adding t (call name [] (Load 0 e ∷ scan_steps 0 looked) ++ further (Load k n) ∷ [])) w_is

    pub inactive_steps : n ≡ 0 → v ≡ adding t (call name [] (Load 0 e ∷ scan_steps 0 (looked ++ record { active = n; epoch = 0 } ∷ [])))
    inactive_steps none = did_more v (record { active = n; epoch = 0 }) (Load (active_word rec) n ∷ []) seen
        (sym (ap (λ (c : Bool). Load (active_word rec) n ∷ cond c [] (Load (epoch_word rec) 0 ∷ [])) (eq-eqb n 0 none)))

    pub active_steps : n ≢ 0 → (z : Seat C) (x m : ℕ) → x ≡ epoch_word rec → Makes P v (further (Load x m)) z → z ≡ adding t (call name [] (Load 0 e ∷ scan_steps 0 (looked ++ record { active = n; epoch = m } ∷ [])))
    active_steps active z x m x_is compared = did_more z (record { active = n; epoch = m }) (Load (active_word rec) n ∷ Load (epoch_word rec) m ∷ [])
        (adds_one P t v z (call name [] (Load 0 e ∷ scan_steps 0 looked) ++ further (Load (active_word rec) n) ∷ []) (further (Load x m)) seen compared
        ∙ ap (adding t) (append_assoc (call name [] (Load 0 e ∷ scan_steps 0 looked)) (further (Load (active_word rec) n) ∷ []) (further (Load x m) ∷ [])
        ∙ ap (λ (k : ℕ). call name [] (Load 0 e ∷ scan_steps 0 looked) ++ further (Load (active_word rec) n) ∷ further (Load k m) ∷ []) x_is))
        (sym (ap (λ (c : Bool). Load (active_word rec) n ∷ cond c [] (Load (epoch_word rec) m ∷ [])) (ne_eqb n 0 active)))

-- what was found of the records, with one more of them
pub found_inactive : (e : ℕ) (ls : List RecordLook) (busy : Option ℕ) (l : RecordLook) → l.active ≡ 0 → IsFirstFound e ls busy → IsFirstFound e (ls ++ l ∷ []) busy
found_inactive e ls None l none f = All-push (λ (x : RecordLook). x.active ≡ 0) ls l f none
found_inactive e ls (Some r) l none f = record {
  before = f.before;
  active = f.active;
  after = f.after ++ l ∷ [];
  are = ap (λ (xs : List RecordLook). xs ++ l ∷ []) f.are ∙ append_assoc f.before (record { active = f.active; epoch = e } ∷ f.after) (l ∷ []);
  at = f.at;
  inactive = f.inactive;
  is_active = f.is_active;
  current = All-push (λ (x : RecordLook). x.active ≢ 0 → x.epoch ≡ e) f.after l f.current (λ active. absurd (active none));
}

found_epoch : (e n : ℕ) (ls : List RecordLook) (busy : Option ℕ) → n ≢ 0 → IsFirstFound e ls busy → IsFirstFound e (ls ++ record { active = n; epoch = e } ∷ []) (first_busy busy (length ls))
found_epoch e n ls None active f = record {
  before = ls;
  active = n;
  after = [];
  are = refl;
  at = refl;
  inactive = f;
  is_active = active;
  current = All-nil (λ (x : RecordLook). x.active ≢ 0 → x.epoch ≡ e);
}
found_epoch e n ls (Some r) active f = record {
  before = f.before;
  active = f.active;
  after = f.after ++ record { active = n; epoch = e } ∷ [];
  are = ap (λ (xs : List RecordLook). xs ++ record { active = n; epoch = e } ∷ []) f.are ∙ append_assoc f.before (record { active = f.active; epoch = e } ∷ f.after) (record { active = n; epoch = e } ∷ []);
  at = f.at;
  inactive = f.inactive;
  is_active = f.is_active;
  current = All-push (λ (x : RecordLook). x.active ≢ 0 → x.epoch ≡ e) f.after (record { active = n; epoch = e }) f.current (λ _. refl);
}

pub found_current : (e n m rec : ℕ) (ls : List RecordLook) (busy : Option ℕ) → n ≢ 0 → m ≡ e → length ls ≡ rec → IsFirstFound e ls busy → IsFirstFound e (ls ++ record { active = n; epoch = m } ∷ []) (first_busy busy rec)
found_current e n m rec ls busy active is count f = subst (λ (k : ℕ × ℕ). IsFirstFound e (ls ++ record { active = n; epoch = k.0 } ∷ []) (first_busy busy k.1)) (λ i. (sym is i, count i)) (found_epoch e n ls busy active f)

-- the first record that was active, after one more
pub first_is : (busy : Option ℕ) (rec : ℕ) → first_busy busy rec ≡ Some (unwrap_or busy rec)
first_is None rec = refl
first_is (Some r) rec = refl

inactive_current : (e : ℕ) (ls : List RecordLook) → AreInactive ls → AreCurrent e ls
inactive_current e ls h k d l active = absurd (active (h k d l))

pub are_current : (e : ℕ) (ls : List RecordLook) (busy : Option ℕ) → IsFirstFound e ls busy → AreCurrent e ls
are_current e ls None f = inactive_current e ls f
are_current e ls (Some r) f = subst (AreCurrent e) (sym f.are)
    (All-append (λ (x : RecordLook). x.active ≢ 0 → x.epoch ≡ e) f.before (record { active = f.active; epoch = e } ∷ f.after) (inactive_current e f.before f.inactive)
    (All-cons (λ (x : RecordLook). x.active ≢ 0 → x.epoch ≡ e) (record { active = f.active; epoch = e }) f.after (λ _. refl) f.current))

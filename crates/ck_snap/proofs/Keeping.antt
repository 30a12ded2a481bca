-- Each ruled step keeps the rule of the two copies.
use Rattle.std.proofs.Common.{◌≡◌, ℕ, ◌≢◌, List, [], ◌∷◌, ◌++◌, set, Option, Some, None, refl, sym, ap, subst, ◌∙◌, ⊎_elim}
use mathlib.Core.Option.{some}
use lib.ListN.{get_elem?}
use Rattle.left_right.specs.Register.{Admits, Turns, TurnsAt, Forks, Merges}
use Rattle.std.proofs.lemmas.List.{append-nil}
use Rattle.atomic_table.proofs.Lists.{at_set, at_snoc}
use Rattle.ck_history.specs.declared.log.LogEntry.{LogEntry}
use Rattle.ck_history.specs.Map.{Map}
use Rattle.ck_history.specs.Book.{BookView}
use Rattle.ck_snap.specs.declared.version.Version.{Version}
use Rattle.ck_snap.specs.declared.snapshot.Snapshot.{Snapshot}
use Rattle.ck_snap.specs.declared.rule.EndView.{EndView}
use Rattle.ck_snap.specs.Log.{Log, last_of, most_pairs, book_after}
use Rattle.ck_snap.specs.Version.{version_log, Precedes, FollowsVersion, book_with}
use Rattle.ck_snap.specs.Copies.{Keeps, Shows, newcomer, seeing, snapshot_of}
use Rattle.ck_snap.proofs.Prefixes.{prefix_self, prefix_trans}
use Rattle.ck_snap.proofs.Replying.{map_after-snoc}

precedes_self : (v : Version) → Precedes (Some v) v
precedes_self v = (refl, prefix_self (version_log v))

precedes_later : (v : Option Version) (s t : Version) → Precedes v s → Precedes (Some s) t → Precedes v t
precedes_later None s t p q = tt
precedes_later (Some u) s t p q = (p.0 ∙ q.0, prefix_trans (version_log u) (version_log s) (version_log t) p.1 q.1)

-- what every end of a list has seen precedes this version
abbrev All_precede : List EndView → Version → Type 0
All_precede views next = (seat : ℕ) (v : EndView) → get_elem? views seat ≡ some v → Precedes v.seen next

precede_later : (views : List EndView) (s t : Version) → All_precede views s → Precedes (Some s) t → All_precede views t
precede_later views s t h up j u e = precedes_later u.seen s t (h j u e) up

precede_set : (views : List EndView) (seat : ℕ) (w : EndView) (next : Version) → All_precede views next → Precedes w.seen next → All_precede (set views seat w) next
precede_set views seat w next h here j u e =
    ⊎_elim (λ (t : (j ≡ seat) × (w ≡ u)). subst (λ (z : EndView). Precedes z.seen next) t.1 here) (λ (t : (j ≢ seat) × (get_elem? views j ≡ some u)). h j u t.1) (at_set views seat j w u e)

precede_snoc : (views : List EndView) (w : EndView) (next : Version) → All_precede views next → Precedes w.seen next → All_precede (views ++ w ∷ []) next
precede_snoc views w next h here j u e = ⊎_elim (h j u) (λ (same : w ≡ u). subst (λ (z : EndView). Precedes z.seen next) same here) (at_snoc views w u j e)

-- a step after which the copy y is shown, whose version comes after that of x
turns_to : (seat : ℕ) (v : EndView) (x y : Snapshot) → Precedes (Some x.version) y.version → (x ≡ snapshot_of x.version → y ≡ snapshot_of y.version)
    → TurnsAt (λ x views. Keeps x views) seat v x y (λ v x y w. Shows v y w)
turns_to seat v x y up fold views h at =
    let later : Precedes v.seen y.version = precedes_later v.seen x.version y.version (h.each seat v at) up in (
      seeing v y.version,
      record { fold = fold h.fold; each = precede_set views seat (seeing v y.version) y.version (precede_later views x.version y.version h.each up) (precedes_self y.version) },
      record { view = refl; later = later; fold = fold h.fold },
    )

-- an enter
pub enters : (seat : ℕ) (v : EndView) → Turns (λ x views. Keeps x views) seat v (λ x. x) (λ v x y w. Shows v y w)
enters seat v x = turns_to seat v x x (precedes_self x.version) (λ p. p)

-- a page after one more update
book_after-append : (log : Log) (last : Option (LogEntry ℕ)) → book_with (book_after log) last ≡ book_after (log ++ last_of last)
book_after-append log None = ap book_after (sym (append-nil log))
book_after-append log (Some e) = let page : Map ℕ → BookView ℕ = λ l. record { most = most_pairs; pairs = l } in ap page (sym (map_after-snoc log e))

-- a publish of a version that follows the one that was shown
pub publishes : (seat : ℕ) (v : EndView) (shown : Snapshot) (next : Version) → FollowsVersion shown.version next
    → TurnsAt (λ x views. Keeps x views) seat v shown (record { book = book_with shown.book next.last; version = next }) (λ v x y w. Shows v y w)
publishes seat v shown next follows =
    let up : Precedes (Some shown.version) next = (sym follows.0, (last_of next.last, ap (λ l. l ++ last_of next.last) (sym follows.1))) in
    let y : Snapshot = record { book = book_with shown.book next.last; version = next } in
    turns_to seat v shown y up (λ (fold : shown ≡ snapshot_of shown.version).
    let book : book_with shown.book next.last ≡ book_after (version_log next) =
    ap (λ (s : Snapshot). book_with s.book next.last) fold ∙ (book_after-append (version_log shown.version) next.last ∙ ap (λ l. book_after (l ++ last_of next.last)) (sym follows.1)) in
    let with_book : BookView ℕ → Snapshot = λ b. record { book = b; version = next } in
    ap with_book book)

-- a new reader has seen nothing
pub admits : Admits (λ (x : Snapshot) views. Keeps x views) newcomer
admits x views h = record { fold = h.fold; each = precede_snoc views newcomer x.version h.each tt }

-- what the writer knows is cut in two ..
pub forks : (seat : ℕ) (v : EndView) → Forks (λ (x : Snapshot) views. Keeps x views) seat v v v
forks seat v x views h at =
    let here = h.each seat v at in record { fold = h.fold; each = precede_snoc (set views seat v) v x.version (precede_set views seat v x.version h.each here) here }

-- .. for a reader that has made as many enters as before
pub merges : (seat : ℕ) (v : EndView) (other : ℕ) (w : EndView) → Merges (λ (x : Snapshot) views. Keeps x views) seat v other w (record { enters = v.enters; seen = w.seen }) newcomer
merges seat v other w x views h at apart there =
    let both : EndView = record { enters = v.enters; seen = w.seen } in
    let known : Precedes w.seen x.version = ⊎_elim (λ (t : (other ≡ seat) × (both ≡ w)). absurd (apart t.0)) (λ (t : (other ≢ seat) × (get_elem? views other ≡ some w)). h.each other w t.1) (at_set views seat other both w there) in
    record { fold = h.fold; each = precede_set (set views seat both) other newcomer x.version (precede_set views seat both x.version h.each known) tt }

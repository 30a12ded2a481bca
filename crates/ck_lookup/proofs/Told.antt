-- Files that are read one after another, and what is told of them.
use Rattle.std.proofs.Common.{◌≡◌, ℕ, zero, suc, ◌+◌, ◌<◌, List, [], ◌∷◌, ◌++◌, length, map, take, get_or, replicate, Option, Some, None, IfSome, refl, ap, subst, sym, ◌∙◌, arith, add-one}
use Rattle.std.specs.Prelude.{slice_get}
use Rattle.std.proofs.lemmas.List.{take-map, length-replicate}
use Rattle.std.proofs.lemmas.Option.{slice_get_within, get_or_from_slice_get}
use Rattle.std.proofs.Math.Seq.{take-suc}
use Rattle.ck_io.specs.Faults.{Rose}
use Rattle.ck_lookup.specs.declared.outcome.Outcome.{Outcome}
use Rattle.ck_lookup.specs.declared.outcome.Outcome.TheVariants.{Done, Usage, ReadFault, BadScript, TooLarge, WriteFault, BadReport, Illegal, NoMemory}
use Rattle.ck_lookup.specs.Limits.{AreWithin, most_bytes}
use Rattle.ck_lookup.specs.Causes.{AreRead, AreFirstWithin, IsTooLarge}
use Rattle.ck_lookup.specs.Fetching.{IsPast, IsRefusedNext}
use Rattle.ck_lookup.specs.Running.{IsRefusedFetch}
use Rattle.ck_lookup.proofs.Within.{too_long_past}

-- bytes that were read are the bytes that are told
pub read_is_told : (o : Option (List ℕ)) (bytes told : List ℕ) → IfSome o (λ held. bytes ≡ held) → o ≡ Some told → told ≡ bytes
read_is_told None bytes told read is = absurd (cc)
read_is_told (Some held) bytes told read is = let same : held ≡ told = cc in sym same ∙ sym read

module _ (told : List ℕ → Option (List ℕ)) where
  -- one more file was read
  pub read_push : (ns : List (List ℕ)) (name : List ℕ) (files : List (List ℕ)) (file : List ℕ) → AreRead told ns files → IfSome (told name) (λ bytes. file ≡ bytes) → AreRead told (ns ++ name ∷ []) (files ++ file ∷ [])
  read_push [] name [] file read here = (here, tt)
  read_push [] name (f ∷ files) file read here = absurd read
  read_push (n ∷ ns) name [] file read here = absurd read
  read_push (n ∷ ns) name (f ∷ files) file read here = (read.0, read_push ns name files file read.1 here)

  -- what is told of the names is what was read
  pub read_told : (ns files ts : List (List ℕ)) → AreRead told ns files → map told ns ≡ map Some ts → ts ≡ files
  read_told [] [] [] read tells = refl
  read_told [] [] (t ∷ ts) read tells = absurd (cc)
  read_told [] (f ∷ files) ts read tells = absurd read
  read_told (n ∷ ns) [] ts read tells = absurd read
  read_told (n ∷ ns) (f ∷ files) [] read tells = absurd (cc)
  read_told (n ∷ ns) (f ∷ files) (t ∷ ts) read tells =
      let here : told n ≡ Some t = cc in
      let later : map told ns ≡ map Some ts = cc in
      ap (λ x. x ∷ ts) (read_is_told (told n) f t read.0 here) ∙ ap (λ xs. f ∷ xs) (read_told ns files ts read.1 later)

-- a file that was read and is past a limit, or of which more was read than one may have
pub past_read : (told : Option (List ℕ)) (old : List (List ℕ)) (bytes : List ℕ) → IfSome told (λ all. bytes ≡ all) → (AreWithin (old ++ bytes ∷ []) → ⊥) → IsPast told old
past_read told old bytes read past = (bytes, read, past)

untold_past : (n : ℕ) (old : List (List ℕ)) → most_bytes < n → IsPast None old
untold_past n old long = (replicate n 0, tt, too_long_past old (replicate n 0) (subst (λ k. most_bytes < k) (sym (length-replicate n 0)) long))

pub past_too_long : (told : Option (List ℕ)) (old : List (List ℕ)) → IfSome told (λ all. most_bytes < length all) → IsPast told old
past_too_long (Some all) old long = (all, refl, too_long_past old all long)
past_too_long None old long = untold_past (most_bytes + 1) old (omega arith)

module _ (held : List ℕ → Option (List ℕ)) (names : List (List ℕ)) where
  -- the files that were read are within the limits
  pub first_within : (n : ℕ) (files : List (List ℕ)) → AreRead held (take n names) files → AreWithin files → AreFirstWithin held names n
  first_within n files read within = record { files = files; read = read; within = within }

  -- the next file would be past a limit
  pub next_too_large : (n : ℕ) (name : List ℕ) (files : List (List ℕ)) → slice_get names n ≡ Some name → AreRead held (take n names) files → AreWithin files → IsPast (held name) files → IsTooLarge held names n
  next_too_large n name files named read within past =
      let below : n < length names = slice_get_within names n name named in
      let taken : take (suc n) names ≡ take n names ++ name ∷ [] = take-suc names n name below ∙ ap (λ x. take n names ++ x ∷ []) (get_or_from_slice_get names n name name named) in
      let more : AreRead held (take (suc n) names) (files ++ past.0 ∷ []) = subst (λ ns. AreRead held ns (files ++ past.0 ∷ [])) (sym taken) (read_push held (take n names) name files past.0 read past.1) in
      record {
        named = below;
        earlier = files;
        bytes = past.0;
        read = subst (λ k. AreRead held (take k names) (files ++ past.0 ∷ [])) (sym (add-one n)) more;
        within = within;
        past = past.2;
      }

  -- the next file was refused
  pub refused_next : (before now after : List ℕ → ℕ) (n : ℕ) (name : List ℕ) (files : List (List ℕ)) (o : Outcome) → slice_get names n ≡ Some name → AreRead held (take n names) files → AreWithin files → now ≡ before → IsRefusedNext n name (held name) files now after o → IsRefusedFetch held names before after o
  refused_next before now after n name files (ReadFault f) named read within fetched refused = record {
    name = name;
    named = rw refused.0 named;
    rose = subst (λ counts. Rose (counts name) (after name)) fetched refused.1;
    earlier = rw refused.0 (first_within n files read within);
  }
  refused_next before now after n name files (TooLarge f) named read within fetched refused = (refused.1 ∙ fetched, rw refused.0 (next_too_large n name files named read within refused.2))
  refused_next before now after n name files NoMemory named read within fetched refused = tt
  refused_next before now after n name files Done named read within fetched refused = absurd refused
  refused_next before now after n name files Usage named read within fetched refused = absurd refused
  refused_next before now after n name files (BadScript f line why) named read within fetched refused = absurd refused
  refused_next before now after n name files WriteFault named read within fetched refused = absurd refused
  refused_next before now after n name files (BadReport line) named read within fetched refused = absurd refused
  refused_next before now after n name files Illegal named read within fetched refused = absurd refused

-- names of query files, as they are kept
module _ {N : Type 0} (name_of : N → List ℕ) where
  -- the name of one
  name_at : (queries : List N) (i : ℕ) (d : N) → i < length queries → slice_get (map name_of queries) i ≡ Some (name_of (get_or queries i d))
  name_at [] i d lt = absurd (omega arith)
  name_at (x ∷ queries) zero d lt = refl
  name_at (x ∷ queries) (suc i) d lt = name_at queries i d (omega arith)

  -- the names so far, and of one more
  names_more : (queries : List N) (i : ℕ) (d : N) → i < length queries → map name_of (take (suc i) queries) ≡ map name_of (take i queries) ++ name_of (get_or queries i d) ∷ []
  names_more [] i d lt = absurd (omega arith)
  names_more (x ∷ queries) zero d lt = refl
  names_more (x ∷ queries) (suc i) d lt = ap (λ ns. name_of x ∷ ns) (names_more queries i d (omega arith))

  -- one more query file was read
  pub query_read : (held : List ℕ → Option (List ℕ)) (updates : List ℕ) (queries : List N) (i : ℕ) (d : N) (files new : List (List ℕ)) (file : List ℕ) → i < length queries → AreRead held (updates ∷ map name_of (take i queries)) files → new ≡ files ++ file ∷ [] → IfSome (held (name_of (get_or queries i d))) (λ bytes. file ≡ bytes) → AreRead held (updates ∷ map name_of (take (i + 1) queries)) new
  query_read held updates queries i d files new file lt read added here =
      rw (added, add-one, names_more queries i d lt) (read_push held (updates ∷ map name_of (take i queries)) (name_of (get_or queries i d)) files file read here)

  -- the next query file was refused
  pub refused_query : (held : List ℕ → Option (List ℕ)) (updates : List ℕ) (queries : List N) (before now after : List ℕ → ℕ) (i number : ℕ) (d : N) (files : List (List ℕ)) (o : Outcome) → i < length queries → number ≡ i + 1 → AreRead held (updates ∷ map name_of (take i queries)) files → AreWithin files → now ≡ before → IsRefusedNext number (name_of (get_or queries i d)) (held (name_of (get_or queries i d))) files now after o → IsRefusedFetch held (updates ∷ map name_of queries) before after o
  refused_query held updates queries before now after i number d files o lt count read within fetched refused =
      let name = name_of (get_or queries i d) in
      let read_first : AreRead held (updates ∷ take i (map name_of queries)) files = rw (take-map name_of i queries) read in
      let refused_here : IsRefusedNext (suc i) name (held name) files now after o = rw (count, add-one) at refused in
      refused_next held (updates ∷ map name_of queries) before now after (suc i) name files o (name_at queries i d lt) read_first within fetched refused_here

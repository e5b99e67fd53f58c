-- What the decoded functions hold is what image `Decode` says: context places and places mutated inside. Assumes nothing.
use Rattle.std.specs.Prelude.{ℕ, zero, suc, ◌+◌, ◌*◌, ◌≤◌, ◌<◌, ◌≡◌}
use Rattle.std.proofs.Math.Path.{sym, ap}
use Rattle.std.proofs.Common.{◌∙◌, ⊎_elim, eq-or-lt_of_le}
use mathlib.Core.List.{List}
use native.Mathlib.Omega.{arith}
use Rattle.std.proofs.Math.ListN.{length}
use Rattle.def_effects.specs.declared.Place.{Place}
use Rattle.lent_tables.specs.Words.{field, put_field, places_in}
use Rattle.lent_tables.proofs.Laws.Word.{put_length, put_record, places_length, places_record, places_cong}
use Rattle.lent_layout.specs.Layout as Lent
use Rattle.lent_layout.specs.Context.{ContextWords}
use Rattle.lent_context.specs.Lent.{context_of, mutated_inside}
use Rattle.def_image.specs.Layout.{Image, functions, count_of, function_flags, context_first, context_count, inside_first, inside_count}
use Rattle.def_image.specs.Decode.{list_from, place_at, places_from}
use Rattle.image_decode.specs.Decoded.{after, decoded_identifier, decoded_counts, decoded_function, decoded_functions, decoded_places, decoded_contexts, decoded_context}
use Rattle.image_decode.proofs.Laws.Candidate.{run_length}
use Rattle.image_decode.proofs.Laws.StateBack.{after_length}
use Rattle.lent_tables.proofs.Laws.Back.{word_back, word_beside, run_beside, run_back}

-- ---- lengths

-- flags and counts keep the length of the functions
counts_length : (im : Image) (k : ℕ) (c : List ℕ) → length (decoded_counts im k c) ≡ length c
unfolding decoded_counts
counts_length im k c = put_length Lent.functions _ k 2 _ ∙ put_length Lent.functions _ k 1 _ ∙ put_length Lent.functions c k 0 _

-- so does a function
pub function_length : (im : Image) (k : ℕ) (c : List ℕ) → length (decoded_function im k c) ≡ length c
unfolding decoded_function
function_length im k c = places_length Lent.functions _ k 3 0 _ ∙ counts_length im k c

-- its context places keep the length of their table
pub context_length : (im : Image) (k : ℕ) (c : List ℕ) → length (decoded_places im k c) ≡ length c
unfolding decoded_places
context_length im k c = places_length Lent.contexts c k 0 0 _

-- so does an identifier
pub identifier_length : (im : Image) (k : ℕ) (c : List ℕ) → length (decoded_identifier im k c) ≡ length c
unfolding decoded_identifier
identifier_length im k c = put_length Lent.identifiers _ k 3 _ ∙ put_length Lent.identifiers _ k 2 _ ∙ put_length Lent.identifiers _ k 1 _ ∙ put_length Lent.identifiers c k 0 _

-- ---- one function

module _ (im : Image) (k : ℕ) (c : List ℕ) (row : k < 64) (long : 10432 ≤ length c) where
  -- the counts of the function, and what its places leave of it
  functions_kept : (v : ℕ) → v < 3 → field Lent.functions (decoded_function im k c) k v ≡ field Lent.functions (decoded_counts im k c) k v
  unfolding decoded_function
  functions_kept v l = run_beside Lent.functions k (decoded_counts im k c) 3 0 (places_from im (inside_first im k) (inside_count im k)) v (omega arith)

  -- its flags
  -- word 0
  own_flags : field Lent.functions (decoded_function im k c) k 0 ≡ function_flags im k
  unfolding decoded_counts
  own_flags =
      functions_kept 0 (omega arith)
      ∙ word_beside Lent.functions k _ 2 (inside_count im k) 0 (λ e. omega arith)
      ∙ word_beside Lent.functions k _ 1 (context_count im k) 0 (λ e. omega arith)
      ∙ word_back Lent.functions k c 0 (function_flags im k) row (omega arith) (let y : 0 + k * 163 + 163 ≤ length c = omega arith in y)

  -- its count of context places
  -- word 1
  count_context : field Lent.functions (decoded_function im k c) k 1 ≡ context_count im k
  unfolding decoded_counts
  count_context =
      functions_kept 1 (omega arith)
      ∙ word_beside Lent.functions k _ 2 (inside_count im k) 1 (λ e. omega arith)
      ∙ word_back Lent.functions k (put_field Lent.functions c k 0 (function_flags im k)) 1 (context_count im k) row (omega arith)
      (let z : length (put_field Lent.functions c k 0 (function_flags im k)) ≡ length c = put_length Lent.functions c k 0 (function_flags im k) in let y : 0 + k * 163 + 163 ≤ length (put_field Lent.functions c k 0 (function_flags im k)) = omega arith in y)

  -- its count of places mutated inside
  -- word 2
  count_inside : field Lent.functions (decoded_function im k c) k 2 ≡ inside_count im k
  unfolding decoded_counts
  count_inside =
      functions_kept 2 (omega arith)
      ∙ word_back Lent.functions k (put_field Lent.functions (put_field Lent.functions c k 0 (function_flags im k)) k 1 (context_count im k)) 2 (inside_count im k) row (omega arith)
      (let z : length (put_field Lent.functions (put_field Lent.functions c k 0 (function_flags im k)) k 1 (context_count im k)) ≡ length c = put_length Lent.functions (put_field Lent.functions c k 0 (function_flags im k)) k 1 (context_count im k) ∙ put_length Lent.functions c k 0 (function_flags im k) in
      let y : 0 + k * 163 + 163 ≤ length (put_field Lent.functions (put_field Lent.functions c k 0 (function_flags im k)) k 1 (context_count im k)) = omega arith in
      y)

  -- its places mutated inside
  -- at most 32
  inside_back : inside_count im k ≤ 32 → places_in Lent.functions (decoded_function im k c) k 3 0 (field Lent.functions (decoded_function im k c) k 2) ≡ places_from im (inside_first im k) (inside_count im k)
  unfolding decoded_function places_from
  inside_back l =
      ap (places_in Lent.functions (decoded_function im k c) k 3 0) (count_inside ∙ sym many)
      ∙ run_back Lent.functions k (decoded_counts im k c) 3 0 ps row (let m : length ps ≡ inside_count im k = many in let z : 3 + (0 + length ps) * 5 ≤ 163 = omega arith in z)
      (let m : length (decoded_counts im k c) ≡ length c = counts_length im k c in let z : 0 + k * 163 + 163 ≤ length (decoded_counts im k c) = omega arith in z)
    where
      ps : List Place
      ps = list_from (inside_count im k) (inside_first im k) (place_at im)

      many : length ps ≡ inside_count im k
      many = run_length (inside_count im k) (inside_first im k) (place_at im)

-- its context places
-- at most 16
context_back : (im : Image) (k : ℕ) (c : List ℕ) → k < 64 → 5120 ≤ length c → context_count im k ≤ 16 → places_in Lent.contexts (decoded_places im k c) k 0 0 (context_count im k) ≡ places_from im (context_first im k) (context_count im k)
unfolding decoded_places places_from
context_back im k c row long l =
    ap (places_in Lent.contexts (decoded_places im k c) k 0 0) (sym many)
    ∙ run_back Lent.contexts k c 0 0 ps row (let m : length ps ≡ context_count im k = many in let z : 0 + (0 + length ps) * 5 ≤ 80 = omega arith in z)
    (let z : 0 + k * 80 + 80 ≤ length c = omega arith in z)
  where
    ps : List Place
    ps = list_from (context_count im k) (context_first im k) (place_at im)

    many : length ps ≡ context_count im k
    many = run_length (context_count im k) (context_first im k) (place_at im)

-- ---- what a function leaves of another

module _ (im : Image) (k j : ℕ) (c : List ℕ) (other : k ≡ j → ⊥) where
  -- the words of another function
  pub function_other : (v : ℕ) → field Lent.functions (decoded_function im k c) j v ≡ field Lent.functions c j v
  unfolding decoded_function decoded_counts
  function_other v =
      places_record Lent.functions _ k 3 0 (places_from im (inside_first im k) (inside_count im k)) j v other
      ∙ put_record Lent.functions _ k 2 (inside_count im k) j v other
      ∙ put_record Lent.functions _ k 1 (context_count im k) j v other
      ∙ put_record Lent.functions c k 0 (function_flags im k) j v other

  -- and of its context places
  pub places_other : (v : ℕ) → field Lent.contexts (decoded_places im k c) j v ≡ field Lent.contexts c j v
  unfolding decoded_places
  places_other v = places_record Lent.contexts c k 0 0 (places_from im (context_first im k) (context_count im k)) j v other

  -- so the places that it mutates inside stay
  inside_other : places_in Lent.functions (decoded_function im k c) j 3 0 (field Lent.functions (decoded_function im k c) j 2) ≡ places_in Lent.functions c j 3 0 (field Lent.functions c j 2)
  inside_other =
      places_cong Lent.functions c (decoded_function im k c) j 3 0 (field Lent.functions (decoded_function im k c) j 2) function_other
      ∙ ap (places_in Lent.functions c j 3 0) (function_other 2)

  -- and so many of its context places
  context_other : (n : ℕ) → places_in Lent.contexts (decoded_places im k c) j 0 0 n ≡ places_in Lent.contexts c j 0 0 n
  context_other n = places_cong Lent.contexts c (decoded_places im k c) j 0 0 n places_other

-- ---- all functions

-- a law of each record that its own write gives and others keep
each_back : {A : Type 0} (put : ℕ → List ℕ → List ℕ) → ((k : ℕ) (d : List ℕ) → length (put k d) ≡ length d) → (c : List ℕ) (read : List ℕ → ℕ → A) (said : ℕ → A) (n : ℕ)
    → ((k : ℕ) (d : List ℕ) → k < n → length d ≡ length c → read (put k d) k ≡ said k)
    → ((k j : ℕ) (d : List ℕ) → (k ≡ j → ⊥) → read (put k d) j ≡ read d j)
    → (f : ℕ) → f < n → read (after put n c) f ≡ said f
unfolding after
each_back put long c read said zero g h f l = absurd (omega arith)
each_back put long c read said (suc n) g h f l =
    ⊎_elim
    (λ e. ap (read (put n (after put n c))) e
    ∙ g n (after put n c) (omega arith) (after_length put long n c)
    ∙ ap said (sym e))
    (λ m. h n f (after put n c) (λ e. omega arith) ∙ each_back put long c read said n (λ k d p. g k d (omega arith)) h f m)
    (eq-or-lt_of_le (let z : f ≤ n = omega arith in z))

module _ (im : Image) (c : ContextWords) (held : 10432 ≤ length c.functions) (few : count_of im functions ≤ 64) where
  -- the places mutated inside of an image in range are read back
  pub insides_back : ((k : ℕ) → k < count_of im functions → inside_count im k ≤ 32) → (f : ℕ) → f < count_of im functions → mutated_inside (decoded_context im c) f ≡ places_from im (inside_first im f) (inside_count im f)
  unfolding decoded_context decoded_functions mutated_inside
  insides_back r =
      each_back (decoded_function im) (function_length im) c.functions (λ d k. places_in Lent.functions d k 3 0 (field Lent.functions d k 2)) (λ k. places_from im (inside_first im k) (inside_count im k)) (count_of im functions)
      (λ k d l e. inside_back im k d (omega arith) (omega arith) (r k l))
      (λ k j d n. inside_other im k j d n)

  -- the flags of an image's functions are read back
  -- "flags (1 effects known, 2 tracked side effect ..)"
  pub flags_back : (f : ℕ) → f < count_of im functions → field Lent.functions (decoded_context im c).functions f 0 ≡ function_flags im f
  unfolding decoded_context decoded_functions
  flags_back =
      each_back (decoded_function im) (function_length im) c.functions (λ d k. field Lent.functions d k 0) (λ k. function_flags im k) (count_of im functions)
      (λ k d l e. own_flags im k d (omega arith) (omega arith))
      (λ k j d n. function_other im k j d n 0)

  -- and their counts of context places
  pub counts_back : (f : ℕ) → f < count_of im functions → field Lent.functions (decoded_context im c).functions f 1 ≡ context_count im f
  unfolding decoded_context decoded_functions
  counts_back =
      each_back (decoded_function im) (function_length im) c.functions (λ d k. field Lent.functions d k 1) (λ k. context_count im k) (count_of im functions)
      (λ k d l e. count_context im k d (omega arith) (omega arith))
      (λ k j d n. function_other im k j d n 1)

  -- the context places of an image in range are read back
  -- "each function has its own copy of its context places"
  pub contexts_back : 5120 ≤ length c.contexts → ((k : ℕ) → k < count_of im functions → context_count im k ≤ 16) → (f : ℕ) → f < count_of im functions → context_of (decoded_context im c) f ≡ places_from im (context_first im f) (context_count im f)
  unfolding decoded_context decoded_contexts context_of
  contexts_back h r f l =
      ap (places_in Lent.contexts (after (decoded_places im) (count_of im functions) c.contexts) f 0 0) (counts_back f l)
      ∙ each_back (decoded_places im) (context_length im) c.contexts (λ d k. places_in Lent.contexts d k 0 0 (context_count im k)) (λ k. places_from im (context_first im k) (context_count im k)) (count_of im functions)
      (λ k d l e. context_back im k d (omega arith) (omega arith) (r k l))
      (λ k j d n. context_other im k j d n (context_count im j))
      f
      l

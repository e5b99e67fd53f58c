-- The context of an accepted image earns no class: its identifiers and functions are right, and all its other tables are empty. Assumes nothing.
use Prim.Native.Nat.{ℕ, zero, suc, ◌+◌, ◌-◌, ◌/◌, ◌%◌, ◌≤◌, ◌<◌}
use Rattle.std.proofs.Common.{◌∙◌, ⊎_elim}
use native.Mathlib.Omega.{arith}
use Rattle.std.specs.Prelude.{◌≡◌, Bool, ◌&&◌, ◌||◌, List, [], ◌∷◌, get_or, replicate, Option, None, Some}
use Rattle.std.proofs.Math.Path.{refl, sym, ap, subst}
use Rattle.std.proofs.Math.Bool.{true, false, not}
use Rattle.std.proofs.Math.Dec.{eqb, ltb}
use Rattle.std.proofs.Math.ListN.{length, get_or-eq_default}
use Rattle.std.proofs.lemmas.List.{length-replicate, get_or-replicate}
use borrow.Author.Tests.{eq-eqb, ne_eqb, lt-ltb, le-ltb}
use Rattle.base_tests.proofs.Laws.Order.{lt_or_ge}
use Rattle.base_tests.proofs.Laws.Choice.{ite_ge, ite_yes, ite_no}
use Rattle.lent_copies.specs.Copies.{zeros}
use Rattle.lent_copies.proofs.Laws.Copy.{zero_word}
use Rattle.lent_tables.specs.declared.Table.{Table}
use Rattle.lent_tables.specs.Words.{field, places_in}
use Rattle.lent_layout.specs.Layout as Layout
use Rattle.lent_layout.specs.declared.Numbered.{Numbered}
use Rattle.lent_layout.specs.Context.{ContextWords, interned_of, unused, no_context}
use Rattle.lent_context.specs.Lent.{mutated_inside, interned_count, instance_count, is_keyed, key_count, diagnostic_in}
use Rattle.base_search.specs.Counting.{how_many}
use Rattle.base_search.proofs.Laws.Counting.{count_all_is, none_none}
use Rattle.refuse_key_order.specs.KeyOrder.{key_place_class, miscounted, key_order_class}
use Rattle.lent_context.specs.Lent as Lent
use Rattle.base_tests.proofs.Laws.Bool.{or_neither}
use Rattle.refuse_class.specs.Class.{lower}
use Rattle.refuse_words.specs.Classes.{lowest_below, earns, word_class, used_if, any, run_limit, record_class}
use Rattle.refuse_tables.specs.TableClasses.{identifier_limit, identifier_class, function_limit, places_class, function_class, link_limit, link_class, no_key_class, numbers_of, numbered_class, unused_class}
use Rattle.refuse_tables.specs.TableClasses as Tables
use Rattle.refuse_order.specs.Order.{place_class, order_class}
use Rattle.refuse_records.specs.Accepting.{cached_class, diagnostic_class, interned_class, identifiers_class, functions_class, handed_out, links_class, keys_class, unused_from, diagnostics_class, effects_class, counts_wrong, tables_class, context_class}
use Rattle.def_image.specs.Layout.{Image, word, identifiers, functions, count_of, options, next, identifier_flags, identifier_name, access_start, access_end, function_flags, context_first, context_count, inside_first, inside_count, flag_one, flag_two}
use Rattle.def_image.specs.Refusals.{refusal_of_words}
use Rattle.def_image.specs.Decode.{place_at, places_from}
use Rattle.image_decode.specs.Decoded.{decoded_identifier, decoded_identifiers, decoded_counts, decoded_function, decoded_functions, decoded_places, decoded_contexts, decoded_context}
use Rattle.image_decode.proofs.Laws.Candidate.{run_length}
use Rattle.image_decode.proofs.Laws.ContextBack.{function_length, context_length, identifier_length, function_other, places_other, counts_back, insides_back, flags_back}
use Rattle.image_decode.proofs.Laws.WordsBack.{identifier_other, identifiers_back}
use Rattle.image_outcome.proofs.Laws.Full.{no_context_full}
use Rattle.laws_image_accepted.proofs.Laws.Facts.{few_identifiers, few_functions, few_context, few_inside, options_small, identifier_range, function_flags_is, function_known, context_places, inside_places_is, access_zero, some_identifier, cell_small}
use Rattle.laws_image_accepted.proofs.Laws.Records.{lower_both, lowest_both, earns_not, word_below, word_none, Good, Zero, zero_record, record_good, zero_good, put_good, put_below, run_good, run_limits, rest_stays, each_done, stray_none}
use Rattle.laws_image_accepted.proofs.Laws.Limits.{Pos, pos_some, pos_none, pos_used, pos_ite, pos_at, pos_run}
use Rattle.laws_image_accepted.proofs.Laws.Places.{run_fine}
use Rattle.laws_image_accepted.proofs.Laws.Lengths.{lent_context}

-- ---- records of zeros

-- a record of zeros earns nothing where zero is below every limit
record_zero : (t : Table) (i : ℕ) (lim : ℕ → Option ℕ) (c : List ℕ) → ((v : ℕ) → Pos (lim v)) → Zero t i c → record_class t c lim i ≡ 0
record_zero t i lim c p z = record_good t i lim c (zero_good t i lim c p z)

-- a word that may be used: any number where it is, else zero
-- "both words zero if not hoisted"
word_used : (u x : ℕ) → (u ≡ 0 → x ≡ 0) → x < 4294967296 → word_class (used_if u any) x ≡ 0
word_used zero x h l = word_none x (h refl)
word_used (suc u) x h l = word_below 4294967296 x l

-- a list of zeros has no other word
blank : (m k : ℕ) → get_or {A = ℕ} (replicate m 0) k 0 ≡ 0
unfolding zeros
blank m k = zero_word m k

-- so every record in it is zero
blank_record : (t : Table) (m j : ℕ) → Zero t j (replicate m 0)
blank_record t m j = zero_record t j (replicate m 0) (blank m)

-- a record of diagnostics that is not in use is read out of a list of such, and past its end
unused_at : (m k : ℕ) → get_or (replicate m unused) k unused ≡ unused
unused_at m k =
    ⊎_elim
    (λ l. get_or-replicate m k unused unused l)
    (λ l. get_or-eq_default (replicate m unused) unused {n = k} (subst (λ (x : ℕ). x ≤ k) (sym (length-replicate {A = Numbered} m unused)) l))
    (lt_or_ge k m)

-- it earns nothing
unused_none : unused_class (interned_of unused) ≡ 0
unfolding unused_class numbered_class lowest_below word_class numbers_of lower
unused_none = refl

-- ---- tables that are empty
-- "Interned effects, cached numbers, links and diagnostics start empty"

module _ (im : Image) where
  -- nothing is interned
  pub none_interned : interned_count (lent_context im) ≡ 0
  unfolding decoded_context
  none_interned = refl

  -- and there is no diagnostic
  pub none_told : instance_count (lent_context im) ≡ 0
  unfolding decoded_context
  none_told = refl

  -- no number has a key
  none_keyed : key_count (lent_context im) ≡ 0
  unfolding decoded_context
  none_keyed = refl

  -- every record of the links is zero
  pub links_zero : (j : ℕ) → Zero Layout.links j (lent_context im).links
  unfolding decoded_context
  links_zero j = blank_record Layout.links 1024 j

  -- so is every key
  pub keys_zero : (j : ℕ) → Zero Layout.cached j (lent_context im).keys
  unfolding decoded_context
  keys_zero j = blank_record Layout.cached 14336 j

  -- a link earns nothing
  link_right : (f v : ℕ) → link_class f (lent_context im).links v ≡ 0
  unfolding link_class link_limit
  link_right f v =
      record_zero Layout.links v (link_limit f v (field Layout.links (lent_context im).links v 0)) (lent_context im).links
      (λ w. ap (λ (x : ℕ). word_class (link_limit f v x w) 0) (links_zero v 0) ∙ pos_ite (eqb v 0) None _ pos_none (pos_at (Some 2 ∷ None ∷ []) w (pos_some 2 (omega arith), (pos_none, tt))))
      (links_zero v)

  -- a number without a key earns nothing
  key_right : (n f v : ℕ) → cached_class n f (lent_context im).keys v ≡ 0
  unfolding cached_class no_key_class
  key_right n f v =
      ite_yes (eqb v 0 || eqb (field Layout.cached (lent_context im).keys v 0) 0) _ _ (go (eqb v 0))
      ∙ record_zero Layout.cached v (λ w. None) (lent_context im).keys (λ w. pos_none) (keys_zero v)
    where
      go : (b : Bool) → (b || eqb (field Layout.cached (lent_context im).keys v 0) 0) ≡ true
      go true = refl
      go false = eq-eqb (field Layout.cached (lent_context im).keys v 0) 0 (keys_zero v 0)

  -- so the links earn nothing
  links_right : (f m : ℕ) → links_class f (lent_context im) m ≡ 0
  unfolding links_class
  links_right f m =
      lower_both _ _ (lowest_both (handed_out m) (link_class f (lent_context im).links) (λ k l. link_right f k)) (stray_none Layout.links (lent_context im).links (handed_out m) (omega arith) (λ j l. links_zero j))

  -- no number has a key
  keyless : (v : ℕ) → is_keyed (lent_context im) v ≡ false
  unfolding is_keyed
  keyless v = ap not (eq-eqb (field Layout.cached (lent_context im).keys v 0) 0 (keys_zero v 0))

  -- so the order of no keys earns nothing
  key_order_right : (m : ℕ) → key_order_class (lent_context im) m ≡ 0
  unfolding key_order_class miscounted decoded_context
  key_order_right m =
      lower_both _ _ (earns_not 4 _ (ap not (eq-eqb (how_many (is_keyed (lent_context im)) m) (key_count (lent_context im)) (none_below m))))
      (lower_both _ _ (lowest_both 0 (key_place_class (lent_context im) m 0) (λ k l. absurd (omega arith)))
      (stray_none Layout.key_order (replicate 512 0) 0 (omega arith) (λ j l. blank_record Layout.key_order 512 j)))
    where
      none_below : (m : ℕ) → how_many (is_keyed (lent_context im)) m ≡ 0
      none_below m = count_all_is (is_keyed (lent_context im)) 0 m (omega arith) (λ x a b. keyless x) ∙ none_none (is_keyed (lent_context im))

  -- nor do the cached numbers
  keys_right : (n f m : ℕ) → keys_class n f (lent_context im) m ≡ 0
  unfolding keys_class
  keys_right n f m =
      lower_both _ _ (lowest_both (handed_out m) (cached_class n f (lent_context im).keys) (λ k l. key_right n f k))
      (lower_both _ _ (stray_none Layout.cached (lent_context im).keys (handed_out m) (omega arith) (λ j l. keys_zero j)) (key_order_right (handed_out m)))

  -- nor do the diagnostics
  diagnostics_right : (n : ℕ) → diagnostics_class n (lent_context im) ≡ 0
  unfolding diagnostics_class unused_from diagnostic_in decoded_context
  diagnostics_right n =
      lower_both _ _ (lowest_both 0 (diagnostic_class n (replicate 256 unused)) (λ k l. absurd (omega arith)))
      (lowest_both 256 (λ k. unused_class (diagnostic_in (replicate 256 unused) (0 + k))) (λ k l. ap (λ (x : Numbered). unused_class (interned_of x)) (unused_at 256 (0 + k)) ∙ unused_none))

  -- nor does the order of no effects
  order_right : order_class (lent_context im) ≡ 0
  unfolding order_class decoded_context
  order_right =
      lower_both _ _ (lowest_both 0 (place_class (lent_context im) 0) (λ k l. absurd (omega arith)))
      (stray_none Layout.effect_order (replicate 2048 0) 0 (omega arith) (λ j l. blank_record Layout.effect_order 2048 j))

  -- nor do the interned effects
  effects_right : (n f : ℕ) → effects_class n f (lent_context im) ≡ 0
  unfolding effects_class decoded_context
  effects_right n f =
      lower_both _ _ (lowest_both 0 (interned_class n f (lent_context im)) (λ k l. absurd (omega arith)))
      (lower_both _ _ (stray_none Layout.interned (replicate 200704 0) 0 (omega arith) (λ j l. blank_record Layout.interned 200704 j)) order_right)

-- as many places are read as are asked for
places_count : (t : Table) (c : List ℕ) (i w k n : ℕ) → length (places_in t c i w k n) ≡ n
unfolding places_in
places_count t c i w k zero = refl
places_count t c i w k (suc n) = ap suc (places_count t c i w (suc k) n)

-- a run of an image's places is as long as its count
places_long : (im : Image) (first count : ℕ) → length (places_from im first count) ≡ count
unfolding places_from
places_long im first count = run_length count first (place_at im)

-- the second flag, tested two ways
flags_same : (x : ℕ) → Lent.flag_two x ≡ flag_two x
flags_same x =
    ⊎_elim
    (λ l. eq-eqb (x / 2 % 2) 1 (omega arith) ∙ sym (lt-ltb 1 (x % 4) l))
    (λ l. ne_eqb (x / 2 % 2) 1 (λ e. omega arith) ∙ sym (le-ltb 1 (x % 4) l))
    (lt_or_ge 1 (x % 4))

module _ (im : Image) (small : (i : ℕ) → word im i < 4294967296) (ok : refusal_of_words im ≡ 0) where
  -- how many identifiers there are
  abbrev n : ℕ
  n = count_of im identifiers

  -- how many functions there are
  abbrev f : ℕ
  f = count_of im functions

  -- the context
  abbrev c : ContextWords
  c = lent_context im

  -- ---- identifiers

  -- the limits of identifier k
  abbrev naming : ℕ → ℕ → Option ℕ
  naming k = identifier_limit (identifier_flags im k)

  -- zero is below each
  naming_pos : (k v : ℕ) → Pos (naming k v)
  unfolding identifier_limit
  naming_pos k v =
      let u : Pos (used_if (identifier_flags im k / 2 % 2) any) = pos_used (identifier_flags im k / 2 % 2) any (pos_some 4294967296 (omega arith)) in
      pos_at (Some 4 ∷ Some 513 ∷ used_if (identifier_flags im k / 2 % 2) any ∷ used_if (identifier_flags im k / 2 % 2) any ∷ []) v (pos_some 4 (omega arith), (pos_some 513 (omega arith), (u, (u, tt))))

  -- an identifier that is not hoisted has no access
  -- "access start, end (both words zero if not hoisted)"
  unhoisted : (k : ℕ) → k < n → identifier_flags im k / 2 % 2 ≡ 0 → (access_start im k ≡ 0) × (access_end im k ≡ 0)
  unhoisted k l e = access_zero im ok k l (le-ltb 1 (identifier_flags im k % 4) (omega arith))

  -- a record of zeros, with identifier k written
  -- "flags (1 ref, 2 hoisted), name 1..512 or 0, access start, end"
  identifier_made : (k : ℕ) (d : List ℕ) → k < n → Zero Layout.identifiers k d → Good Layout.identifiers k (naming k) (decoded_identifier im k d)
  unfolding decoded_identifier identifier_limit
  identifier_made k d l z =
      let r = identifier_range im ok k l in
      put_good Layout.identifiers k (naming k) _ 3 (access_end im k) (word_used (identifier_flags im k / 2 % 2) (access_end im k) (λ e. (unhoisted k l e).1) (cell_small im small identifiers k 3))
      (put_good Layout.identifiers k (naming k) _ 2 (access_start im k) (word_used (identifier_flags im k / 2 % 2) (access_start im k) (λ e. (unhoisted k l e).0) (cell_small im small identifiers k 2))
      (put_below Layout.identifiers k (naming k) _ 1 (identifier_name im k) 513 refl (omega (arith, r.1))
      (put_below Layout.identifiers k (naming k) d 0 (identifier_flags im k) 4 refl r.0 (zero_good Layout.identifiers k (naming k) d (naming_pos k) z))))

  -- each identifier is right, once all are written
  identifiers_good : (j : ℕ) → j < n → Good Layout.identifiers j (naming j) c.identifiers
  unfolding decoded_context decoded_identifiers
  identifiers_good =
      each_done (decoded_identifier im) (λ i d. Zero Layout.identifiers i d) (λ k i d e z v. identifier_other im k i d v e ∙ z v) (replicate 2048 0) (blank_record Layout.identifiers 2048)
      (λ i d. Good Layout.identifiers i (naming i) d) (λ k i d e g v. ap (word_class (naming i v)) (identifier_other im k i d v e) ∙ g v) (identifier_length im) n (λ k d h e z. identifier_made k d h z)

  -- and what stands after the last is zero
  pub identifiers_after : (j : ℕ) → n ≤ j → Zero Layout.identifiers j c.identifiers
  unfolding decoded_context decoded_identifiers
  identifiers_after =
      rest_stays (decoded_identifier im) (λ i d. Zero Layout.identifiers i d) (λ k i d e z v. identifier_other im k i d v e ∙ z v) (replicate 2048 0) (blank_record Layout.identifiers 2048) n

  -- so the identifiers earn nothing
  -- "identifiers (at most 512)"
  identifiers_right : identifiers_class n c ≡ 0
  unfolding identifiers_class identifier_class
  identifiers_right =
      lower_both _ _
      (lowest_both n (identifier_class c.identifiers)
      (λ j l. ap (λ (x : ℕ). record_class Layout.identifiers c.identifiers (identifier_limit x) j)
      (identifiers_back im no_context (let z = no_context_full.identifiers in omega arith) (few_identifiers im ok) j 0 l (omega arith))
      ∙ record_good Layout.identifiers j (naming j) c.identifiers (identifiers_good j l)))
      (stray_none Layout.identifiers c.identifiers n (omega arith) identifiers_after)

  -- ---- functions

  -- the limits of function k
  abbrev shape : ℕ → ℕ → Option ℕ
  shape k = function_limit n (inside_count im k)

  -- the limits of its context places
  abbrev run : ℕ → ℕ → Option ℕ
  run k = run_limit n (context_count im k)

  -- zero is below each limit
  shape_pos : (k v : ℕ) → Pos (shape k v)
  unfolding function_limit
  shape_pos k v =
      pos_ite (ltb v 3) _ (run_limit n (inside_count im k) (v - 3))
      (pos_at (Some 4 ∷ any ∷ any ∷ []) v (pos_some 4 (omega arith), (pos_some 4294967296 (omega arith), (pos_some 4294967296 (omega arith), tt))))
      (pos_run n (inside_count im k) (v - 3) (some_identifier im ok))

  -- its record, with flags, counts and places mutated inside
  -- "flags .., count of places mutated inside (32)"
  function_made : (k : ℕ) (d : List ℕ) → k < f → Zero Layout.functions k d → Good Layout.functions k (shape k) (decoded_function im k d)
  unfolding decoded_function decoded_counts function_limit
  function_made k d l z =
      run_good Layout.functions k (shape k) (decoded_counts im k d) 3 0 n (places_from im (inside_first im k) (inside_count im k))
      (λ m h. run_limits (shape k) 3 n (inside_count im k) (λ v l. ite_ge v 3 _ (run_limit n (inside_count im k) (v - 3)) l) m
      (let y = places_long im (inside_first im k) (inside_count im k) in let x : m < 0 + length (places_from im (inside_first im k) (inside_count im k)) = h in omega arith))
      (run_fine im small ok (inside_first im k) (inside_count im k) (inside_places_is im ok k l))
      (put_below Layout.functions k (shape k) _ 2 (inside_count im k) 4294967296 refl (cell_small im small functions k 4)
      (put_below Layout.functions k (shape k) _ 1 (context_count im k) 4294967296 refl (cell_small im small functions k 2)
      (put_below Layout.functions k (shape k) d 0 (function_flags im k) 4 refl (function_flags_is im ok k l) (zero_good Layout.functions k (shape k) d (shape_pos k) z))))

  -- its context places, in a record of their own
  -- "count of context places (16)"
  places_made : (k : ℕ) (d : List ℕ) → k < f → Zero Layout.contexts k d → Good Layout.contexts k (run k) (decoded_places im k d)
  unfolding decoded_places
  places_made k d l z =
      run_good Layout.contexts k (run k) d 0 0 n (places_from im (context_first im k) (context_count im k))
      (λ m h. run_limits (run k) 0 n (context_count im k) (λ v l. ap (run k) (let y : v ≡ v - 0 = omega arith in y)) m
      (let y = places_long im (context_first im k) (context_count im k) in let x : m < 0 + length (places_from im (context_first im k) (context_count im k)) = h in omega arith))
      (run_fine im small ok (context_first im k) (context_count im k) (context_places im ok k l))
      (zero_good Layout.contexts k (run k) d (λ v. pos_run n (context_count im k) v (some_identifier im ok)) z)

  -- each function is right, once all are written
  functions_good : (j : ℕ) → j < f → Good Layout.functions j (shape j) c.functions
  unfolding decoded_context decoded_functions
  functions_good =
      each_done (decoded_function im) (λ i d. Zero Layout.functions i d) (λ k i d e z v. function_other im k i d e v ∙ z v) (replicate 10432 0) (blank_record Layout.functions 10432)
      (λ i d. Good Layout.functions i (shape i) d) (λ k i d e g v. ap (word_class (shape i v)) (function_other im k i d e v) ∙ g v) (function_length im) f (λ k d h e z. function_made k d h z)

  -- and what stands after the last is zero
  pub functions_after : (j : ℕ) → f ≤ j → Zero Layout.functions j c.functions
  unfolding decoded_context decoded_functions
  functions_after =
      rest_stays (decoded_function im) (λ i d. Zero Layout.functions i d) (λ k i d e z v. function_other im k i d e v ∙ z v) (replicate 10432 0) (blank_record Layout.functions 10432) f

  -- the same of their context places
  contexts_good : (j : ℕ) → j < f → Good Layout.contexts j (run j) c.contexts
  unfolding decoded_context decoded_contexts
  contexts_good =
      each_done (decoded_places im) (λ i d. Zero Layout.contexts i d) (λ k i d e z v. places_other im k i d e v ∙ z v) (replicate 5120 0) (blank_record Layout.contexts 5120)
      (λ i d. Good Layout.contexts i (run i) d) (λ k i d e g v. ap (word_class (run i v)) (places_other im k i d e v) ∙ g v) (context_length im) f (λ k d h e z. places_made k d h z)

  contexts_after : (j : ℕ) → f ≤ j → Zero Layout.contexts j c.contexts
  unfolding decoded_context decoded_contexts
  contexts_after =
      rest_stays (decoded_places im) (λ i d. Zero Layout.contexts i d) (λ k i d e z v. places_other im k i d e v ∙ z v) (replicate 5120 0) (blank_record Layout.contexts 5120) f

  -- the list of functions before they are written is long enough, and so is that of their context places
  functions_long : 10432 ≤ length no_context.functions
  functions_long = let z = no_context_full.functions in omega arith

  contexts_long : 5120 ≤ length no_context.contexts
  contexts_long = let z = no_context_full.contexts in omega arith

  -- the count of a function's context places is that of the image
  count_context : (j : ℕ) → j < f → field Layout.functions c.functions j 1 ≡ context_count im j
  count_context = counts_back im no_context functions_long (few_functions im ok)

  -- and so is the count of its places mutated inside
  count_inside : (j : ℕ) → j < f → field Layout.functions c.functions j 2 ≡ inside_count im j
  unfolding mutated_inside
  count_inside j l =
      sym (places_count Layout.functions c.functions j 3 0 (field Layout.functions c.functions j 2))
      ∙ ap length (insides_back im no_context functions_long (few_functions im ok) (few_inside im ok) j l)
      ∙ places_long im (inside_first im j) (inside_count im j)

  -- a function with a tracked side effect, or with a place mutated inside, has its effects known
  -- "2, and any place mutated inside, needs 1, else 3"
  known : (j : ℕ) → j < f → Tables.needs_known (function_flags im j) (inside_count im j) ≡ false
  unfolding Tables.needs_known
  known j l = ap (λ (b : Bool). (b || not (eqb (inside_count im j) 0)) && not (flag_one (function_flags im j))) (flags_same (function_flags im j)) ∙ function_known im ok j l

  -- a function earns nothing
  -- by its counts, its record, its flags, and its context places
  function_right : (j : ℕ) → j < f → function_class n c.functions c.contexts j ≡ 0
  unfolding function_class places_class
  function_right j l =
      (λ i. by (flags_back im no_context functions_long (few_functions im ok) j l i) (count_context j l i) (count_inside j l i))
      ∙ lower_both _ _ (earns_not 2 _ (or_neither (ltb 16 (context_count im j)) _ (le-ltb 16 (context_count im j) (few_context im ok j l)) (le-ltb 32 (inside_count im j) (few_inside im ok j l))))
      (lower_both _ _ (record_good Layout.functions j (shape j) c.functions (functions_good j l))
      (lower_both _ _ (earns_not 3 _ (known j l)) (record_good Layout.contexts j (run j) c.contexts (contexts_good j l))))
    where
      by : ℕ → ℕ → ℕ → ℕ
      by x y z =
          lower (earns 2 (ltb 16 y || ltb 32 z))
          (lower (record_class Layout.functions c.functions (function_limit n z) j) (lower (earns 3 (Tables.needs_known x z)) (record_class Layout.contexts c.contexts (run_limit n y) j)))

  -- so the functions earn nothing
  -- "functions (64)"
  functions_right : functions_class n f c ≡ 0
  unfolding functions_class
  functions_right =
      lower_both _ _ (lowest_both f (function_class n c.functions c.contexts) function_right)
      (lower_both _ _ (stray_none Layout.functions c.functions f (omega arith) functions_after) (stray_none Layout.contexts c.contexts f (omega arith) contexts_after))

  -- ---- the whole

  -- no count is wrong
  -- "a count is above its limit"
  counts_right : counts_wrong c ≡ false
  unfolding counts_wrong decoded_context
  counts_right = or_neither (ltb 64 f) _ (le-ltb 64 f (few_functions im ok)) refl

  -- the context of an accepted image earns no class
  -- "The context is all but state and session"
  pub context_right : context_class n c (next im) ≡ 0
  unfolding context_class tables_class decoded_context
  context_right =
      ite_no (counts_wrong c) 2 _ counts_right
      ∙ lower_both _ _ (word_below 4 (options im) (options_small im ok))
      (lower_both _ _ identifiers_right
      (lower_both _ _ functions_right
      (lower_both _ _ (links_right im f (next im)) (lower_both _ _ (keys_right im n f (next im)) (lower_both _ _ (diagnostics_right im n) (effects_right im n f))))))

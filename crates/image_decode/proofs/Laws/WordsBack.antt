-- What a decoded context holds beside its functions' places: options, count of functions, identifiers. Assumes nothing.
use Prim.Native.Nat.{ℕ, zero, suc, ◌+◌, ◌*◌, ◌≤◌, ◌<◌}
use Rattle.std.specs.Prelude.{◌≡◌, List}
use Rattle.std.proofs.Math.Path.{refl}
use Rattle.std.proofs.Common.{sym, ap, ◌∙◌, ⊎_elim, eq-or-lt_of_le}
use native.Mathlib.Omega.{arith}
use Rattle.std.proofs.Math.ListN.{length}
use Rattle.lent_tables.specs.Words.{field, put_field}
use Rattle.lent_tables.proofs.Laws.Word.{put_length, put_record}
use Rattle.lent_layout.specs.Layout as Lent
use Rattle.lent_layout.specs.Context.{ContextWords}
use Rattle.def_image.specs.Layout.{Image, cell, identifiers, functions, count_of, identifier_flags, identifier_name, access_start, access_end, options}
use Rattle.image_decode.specs.Decoded.{after, decoded_identifier, decoded_identifiers, decoded_context}
use Rattle.image_decode.proofs.Laws.StateBack.{after_length}
use Rattle.image_decode.proofs.Laws.ContextBack.{identifier_length}
use Rattle.lent_tables.proofs.Laws.Back.{word_back, word_beside}

-- ---- the numbers beside the tables

-- the options
-- "options (bit 0 .., bit 1 ..)"
pub options_back : (im : Image) (c : ContextWords) → (decoded_context im c).options ≡ options im
unfolding decoded_context
options_back im c = refl

-- the count of functions
-- of identifiers a context has none of its own: the length of the sets that the call is lent says how many there are (`laws_image_accepted` `Laws/Lengths.antt`: `sets_identifiers`)
pub function_count_back : (im : Image) (c : ContextWords) → (decoded_context im c).function_count ≡ count_of im functions
unfolding decoded_context
function_count_back im c = refl

-- ---- identifiers

module _ (im : Image) (k : ℕ) (c : List ℕ) (row : k < 512) (held : 2048 ≤ length c) where
  -- the list after the first word
  abbrev one : List ℕ
  one = put_field Lent.identifiers c k 0 (identifier_flags im k)

  -- and after the second
  abbrev two : List ℕ
  two = put_field Lent.identifiers one k 1 (identifier_name im k)

  -- and after the third
  abbrev three : List ℕ
  three = put_field Lent.identifiers two k 2 (access_start im k)

  -- a word of the record that was written
  written : (d : List ℕ) (w x : ℕ) → length d ≡ length c → w < 4 → field Lent.identifiers (put_field Lent.identifiers d k w x) k w ≡ x
  written d w x e l = word_back Lent.identifiers k d w x row l (let z : 0 + k * 4 + 4 ≤ length d = omega arith in z)

  -- the first write keeps the length
  one_long : length one ≡ length c
  one_long = put_length Lent.identifiers c k 0 (identifier_flags im k)

  -- so does the second
  two_long : length two ≡ length c
  two_long = put_length Lent.identifiers one k 1 (identifier_name im k) ∙ one_long

  -- so does the third
  three_long : length three ≡ length c
  three_long = put_length Lent.identifiers two k 2 (access_start im k) ∙ two_long

  -- each word of an identifier is read back
  -- "flags (1 ref, 2 hoisted), name 1..512 or 0, access start, end"
  word_of_is : (w : ℕ) → w < 4 → field Lent.identifiers (decoded_identifier im k c) k w ≡ cell im identifiers k w
  unfolding decoded_identifier
  word_of_is zero l =
      word_beside Lent.identifiers k three 3 (access_end im k) 0 (λ e. omega arith)
      ∙ word_beside Lent.identifiers k two 2 (access_start im k) 0 (λ e. omega arith)
      ∙ word_beside Lent.identifiers k one 1 (identifier_name im k) 0 (λ e. omega arith)
      ∙ written c 0 (identifier_flags im k) refl l
  word_of_is (suc zero) l =
      word_beside Lent.identifiers k three 3 (access_end im k) 1 (λ e. omega arith)
      ∙ word_beside Lent.identifiers k two 2 (access_start im k) 1 (λ e. omega arith)
      ∙ written one 1 (identifier_name im k) one_long l
  word_of_is (suc (suc zero)) l = word_beside Lent.identifiers k three 3 (access_end im k) 2 (λ e. omega arith) ∙ written two 2 (access_start im k) two_long l
  word_of_is (suc (suc (suc zero))) l = written three 3 (access_end im k) three_long l
  word_of_is (suc (suc (suc (suc w)))) l = absurd (omega arith)

-- an identifier leaves the words of another
pub identifier_other : (im : Image) (k j : ℕ) (c : List ℕ) (w : ℕ) → (k ≡ j → ⊥) → field Lent.identifiers (decoded_identifier im k c) j w ≡ field Lent.identifiers c j w
unfolding decoded_identifier
identifier_other im k j c w n =
    put_record Lent.identifiers _ k 3 (access_end im k) j w n
    ∙ put_record Lent.identifiers _ k 2 (access_start im k) j w n
    ∙ put_record Lent.identifiers _ k 1 (identifier_name im k) j w n
    ∙ put_record Lent.identifiers c k 0 (identifier_flags im k) j w n

-- each of the first n identifiers is read back
identifier_back : (im : Image) (c : List ℕ) → 2048 ≤ length c → (n : ℕ) → n ≤ 512 → (j w : ℕ) → j < n → w < 4 → field Lent.identifiers (after (decoded_identifier im) n c) j w ≡ cell im identifiers j w
unfolding after
identifier_back im c h zero m j w l q = absurd (omega arith)
identifier_back im c h (suc n) m j w l q =
    ⊎_elim
    (λ e. ap (λ (x : ℕ). field Lent.identifiers (decoded_identifier im n (after (decoded_identifier im) n c)) x w) e
    ∙ word_of_is im n (after (decoded_identifier im) n c) (omega arith)
    (let z : length (after (decoded_identifier im) n c) ≡ length c = after_length (decoded_identifier im) (identifier_length im) n c in omega arith)
    w
    q
    ∙ ap (λ (x : ℕ). cell im identifiers x w) (sym e))
    (λ g. identifier_other im n j (after (decoded_identifier im) n c) w (λ e. omega arith) ∙ identifier_back im c h n (omega arith) j w g q)
    (eq-or-lt_of_le (let z : j ≤ n = omega arith in z))

-- the identifiers of an image in range are read back, word by word
-- "identifiers (at most 512)"
pub identifiers_back : (im : Image) (c : ContextWords) → 2048 ≤ length c.identifiers → count_of im identifiers ≤ 512 → (j w : ℕ) → j < count_of im identifiers → w < 4 → field Lent.identifiers (decoded_context im c).identifiers j w ≡ cell im identifiers j w
unfolding decoded_context decoded_identifiers
identifiers_back im c h m = identifier_back im c.identifiers h (count_of im identifiers) m

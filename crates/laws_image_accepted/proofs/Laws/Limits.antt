-- Limits that zero lies below: a record is zero before it is written, and earns nothing so far. Assumes nothing.
use Rattle.std.specs.Prelude.{ℕ, zero, suc, ◌/◌, ◌%◌, ◌<◌, ◌≡◌, refl, Bool, true, false, List, [], ◌∷◌, ltb, get_or, Option, None, Some}
use Rattle.std.proofs.Common.{arith}
use Rattle.base_tests.specs.Tests.{All, ite}
use Rattle.refuse_words.specs.Classes.{word_class, used_if, any, place_limit, run_limit}
use Rattle.laws_image_accepted.proofs.Laws.Records.{word_below, word_none}

-- zero earns nothing by a limit
abbrev pub Pos : Option ℕ → Type 0
Pos o = word_class o 0 ≡ 0

-- of a limit that is not 0
pub pos_some : (l : ℕ) → 0 < l → Pos (Some l)
pos_some l h = word_below l 0 h

-- of a word without use
-- "Unused words are zero"
pub pos_none : Pos None
pos_none = word_none 0 refl

-- of a word that may be used
pub pos_used : (u : ℕ) (o : Option ℕ) → Pos o → Pos (used_if u o)
pos_used zero o h = pos_none
pos_used (suc u) o h = h

-- of either of two limits
pub pos_ite : (b : Bool) (x y : Option ℕ) → Pos x → Pos y → Pos (ite b x y)
pos_ite true x y h k = h
pos_ite false x y h k = k

-- of one of a list of limits
pub pos_at : (l : List (Option ℕ)) (v : ℕ) → All Pos l → Pos (get_or l v None)
pos_at [] v a = pos_none
pos_at (x ∷ l) zero a = a.0
pos_at (x ∷ l) (suc v) a = pos_at l v a.1

-- of a word of a place
pub pos_place : (n v : ℕ) → 0 < n → Pos (place_limit n v)
unfolding place_limit
pos_place n v h =
    pos_at (Some n ∷ Some 8 ∷ Some 2 ∷ any ∷ any ∷ []) v (pos_some n h, (pos_some 8 (omega arith), (pos_some 2 (omega arith), (pos_some 4294967296 (omega arith), (pos_some 4294967296 (omega arith), tt)))))

-- of a word of a run of places
pub pos_run : (n m v : ℕ) → 0 < n → Pos (run_limit n m v)
unfolding run_limit
pos_run n m v h = pos_ite (ltb (v / 5) m) (place_limit n (v % 5)) None (pos_place n (v % 5) h) pos_none

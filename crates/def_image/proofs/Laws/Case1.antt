-- Case 1 of document 01: `infer` gives its listing to the letter. Assumes nothing.
use Rattle.std.specs.Prelude.{ℕ, List, [], ◌∷◌, ◌++◌, ◌≡◌, refl}
use Rattle.def_image.specs.Layout.{bytes_of}
use Rattle.def_image.specs.Listing.{ascii}
use Rattle.def_image.specs.Infer.{infer}
use Rattle.def_image.proofs.Laws.Computing.{computing}

-- "two plain identifiers, next 1, Create into 0 as Frozen, State; Assign 0 to 1; lvalue 1"; place i is of identifier i, without a span
abbrev pub image : List ℕ
image =
    (1 ∷ 0 ∷ 1 ∷ 1 ∷ 0 ∷ [])
    ++ (2 ∷ 17 ∷ 0 ∷ 25 ∷ 0 ∷ 25 ∷ 2 ∷ 25 ∷ 0 ∷ 35 ∷ 2 ∷ 35 ∷ [])
    ++ (0 ∷ 0 ∷ 0 ∷ 0 ∷ [])
    ++ (0 ∷ 0 ∷ 0 ∷ 0 ∷ [])
    ++ (0 ∷ 0 ∷ 0 ∷ 0xffffffff ∷ 0xffffffff ∷ [])
    ++ (1 ∷ 0 ∷ 0 ∷ 0xffffffff ∷ 0xffffffff ∷ [])
    ++ (9 ∷ 0 ∷ 0 ∷ 1 ∷ 1 ∷ 0 ∷ 0 ∷ 0 ∷ [])
    ++ (8 ∷ 0 ∷ 1 ∷ 0 ∷ 0 ∷ 0 ∷ 0 ∷ 0 ∷ [])

-- "All of its output"
abbrev pub output : List ℕ
output = ascii "OK 2 0\nE 9 - 0 1 1 -\nE 11 0 1 - - -\nV 1 1 2\nV 2 1 2\nP 0 1\nP 1 2\nU -\n"

pub case_1 : infer (bytes_of image) ≡ output
unfolding computing
case_1 = refl

-- The starred cases of document 01 of the call itself: each as an image, whose call over lent tables ends as the case says. Cases 9 and 14 are
-- of a phi and of a merge, which no instruction makes. Assumes nothing.
use Rattle.std.specs.Prelude.{ℕ, ◌≡◌, refl, List, [], ◌∷◌, ◌++◌, T}
use Rattle.std.proofs.Common.{sym, ◌∙◌}
use Rattle.base_tests.specs.Tests.{All}
use Rattle.base_tests.proofs.Laws.Choice.{ite_eq}
use Rattle.base_sets.proofs.Laws.Member.{all_map}
use Rattle.def_image.specs.Layout.{words_of, bytes_of}
use Rattle.def_image.specs.Refusals.{refusal_of}
use Rattle.def_image.specs.Listing.{ascii, refusal_line}
use Rattle.def_image.specs.Infer.{infer}
use Rattle.def_image.proofs.Laws.Computing.{computing}
use Rattle.call_outcome.specs.Calls.{outcome}
use Rattle.image_outcome.specs.Inferring.{image_call, shown, inferred}
use Rattle.image_means.proofs.Laws.Inferred.{inferred_as}
use Rattle.image_means.proofs.Laws.Case1.{small, small_at}

-- the words of an image, and its listing
pub record Case : Type 0 where
  pub image : List ℕ
  pub listing : List ℕ

-- 2* "Mutable with Frozen: MaybeFrozen": what CreateFrom makes of both, value 3
abbrev pub case_2 : Case
case_2 = record {
  image =
      (1 ∷ 0 ∷ 3 ∷ 1 ∷ 0 ∷ [])
      ++ (2 ∷ 17 ∷ 2 ∷ 25 ∷ 2 ∷ 31 ∷ 2 ∷ 35 ∷ 0 ∷ 45 ∷ 1 ∷ 45 ∷ [])
      ++ (0 ∷ 0 ∷ 0 ∷ 0 ∷ [])
      ++ (0 ∷ 0 ∷ 0 ∷ 0 ∷ [])
      ++ (1 ∷ 0 ∷ 2048 ∷ [])
      ++ (2 ∷ 1 ∷ 2 ∷ [])
      ++ (0 ∷ 1 ∷ [])
      ++ (0 ∷ 2 ∷ [])
      ++ (0 ∷ 0 ∷ 0 ∷ 0xffffffff ∷ 0xffffffff ∷ [])
      ++ (1 ∷ 0 ∷ 0 ∷ 0xffffffff ∷ 0xffffffff ∷ [])
      ++ (10 ∷ 0 ∷ 1 ∷ 0 ∷ 0 ∷ 0 ∷ 0 ∷ 0 ∷ []);
  listing = ascii "OK 1 0\nE 10 0 1 - - -\nV 1 0 2048\nV 2 1 2\nV 3 3 2050\nP 0 1 2\nP 1 3\nU -\n";
}

-- 3* "Context with Mutable: Context"
abbrev pub case_3 : Case
case_3 = record {
  image =
      (1 ∷ 0 ∷ 3 ∷ 1 ∷ 0 ∷ [])
      ++ (2 ∷ 17 ∷ 2 ∷ 25 ∷ 2 ∷ 31 ∷ 2 ∷ 35 ∷ 0 ∷ 45 ∷ 1 ∷ 45 ∷ [])
      ++ (0 ∷ 0 ∷ 0 ∷ 0 ∷ [])
      ++ (0 ∷ 0 ∷ 0 ∷ 0 ∷ [])
      ++ (1 ∷ 0 ∷ 2048 ∷ [])
      ++ (2 ∷ 5 ∷ 2048 ∷ [])
      ++ (0 ∷ 1 ∷ [])
      ++ (0 ∷ 2 ∷ [])
      ++ (0 ∷ 0 ∷ 0 ∷ 0xffffffff ∷ 0xffffffff ∷ [])
      ++ (1 ∷ 0 ∷ 0 ∷ 0xffffffff ∷ 0xffffffff ∷ [])
      ++ (10 ∷ 0 ∷ 1 ∷ 0 ∷ 0 ∷ 0 ∷ 0 ∷ 0 ∷ []);
  listing = ascii "OK 1 0\nE 10 0 1 - - -\nV 1 0 2048\nV 2 5 2048\nV 3 5 2048\nP 0 1 2\nP 1 3\nU -\n";
}

-- 4* "Global with Primitive: Global"; the Create that CreateFrom emits shows it
abbrev pub case_4 : Case
case_4 = record {
  image =
      (1 ∷ 0 ∷ 3 ∷ 1 ∷ 0 ∷ [])
      ++ (2 ∷ 17 ∷ 2 ∷ 25 ∷ 2 ∷ 31 ∷ 2 ∷ 35 ∷ 0 ∷ 45 ∷ 1 ∷ 45 ∷ [])
      ++ (0 ∷ 0 ∷ 0 ∷ 0 ∷ [])
      ++ (0 ∷ 0 ∷ 0 ∷ 0 ∷ [])
      ++ (1 ∷ 4 ∷ 128 ∷ [])
      ++ (2 ∷ 2 ∷ 2048 ∷ [])
      ++ (0 ∷ 1 ∷ [])
      ++ (0 ∷ 2 ∷ [])
      ++ (0 ∷ 0 ∷ 0 ∷ 0xffffffff ∷ 0xffffffff ∷ [])
      ++ (1 ∷ 0 ∷ 0 ∷ 0xffffffff ∷ 0xffffffff ∷ [])
      ++ (10 ∷ 0 ∷ 1 ∷ 0 ∷ 0 ∷ 0 ∷ 0 ∷ 0 ∷ []);
  listing = ascii "OK 1 0\nE 9 - 1 4 7 -\nV 1 4 128\nV 2 2 2048\nV 3 4 2176\nP 0 1 2\nP 1 3\nU -\n";
}

-- 5* "Undefined place: Mutable {Other}, recorded"
abbrev pub case_5 : Case
case_5 = record {
  image =
      (1 ∷ 0 ∷ 1 ∷ 1 ∷ 0 ∷ [])
      ++ (2 ∷ 17 ∷ 0 ∷ 25 ∷ 0 ∷ 25 ∷ 2 ∷ 25 ∷ 0 ∷ 35 ∷ 1 ∷ 35 ∷ [])
      ++ (0 ∷ 0 ∷ 0 ∷ 0 ∷ [])
      ++ (0 ∷ 0 ∷ 0 ∷ 0 ∷ [])
      ++ (0 ∷ 0 ∷ 0 ∷ 0xffffffff ∷ 0xffffffff ∷ [])
      ++ (1 ∷ 0 ∷ 0 ∷ 0xffffffff ∷ 0xffffffff ∷ [])
      ++ (10 ∷ 0 ∷ 1 ∷ 0 ∷ 0 ∷ 0 ∷ 0 ∷ 0 ∷ []);
  listing = ascii "OK 1 0\nE 10 0 1 - - -\nV 1 0 2048\nP 1 1\nU 0\n";
}

-- 6* "Defined, empty set: the same, nothing recorded"
abbrev pub case_6 : Case
case_6 = record {
  image =
      (1 ∷ 0 ∷ 1 ∷ 1 ∷ 0 ∷ [])
      ++ (2 ∷ 17 ∷ 0 ∷ 25 ∷ 1 ∷ 25 ∷ 2 ∷ 27 ∷ 0 ∷ 37 ∷ 1 ∷ 37 ∷ [])
      ++ (0 ∷ 0 ∷ 0 ∷ 0 ∷ [])
      ++ (0 ∷ 0 ∷ 0 ∷ 0 ∷ [])
      ++ (0 ∷ 0 ∷ [])
      ++ (0 ∷ 0 ∷ 0 ∷ 0xffffffff ∷ 0xffffffff ∷ [])
      ++ (1 ∷ 0 ∷ 0 ∷ 0xffffffff ∷ 0xffffffff ∷ [])
      ++ (10 ∷ 0 ∷ 1 ∷ 0 ∷ 0 ∷ 0 ∷ 0 ∷ 0 ∷ []);
  listing = ascii "OK 1 0\nE 10 0 1 - - -\nV 1 0 2048\nP 0 -\nP 1 1\nU -\n";
}

-- 7* "Freeze of {Mutable, Primitive}: both Frozen"
abbrev pub case_7 : Case
case_7 = record {
  image =
      (1 ∷ 0 ∷ 3 ∷ 0 ∷ 0 ∷ [])
      ++ (1 ∷ 17 ∷ 2 ∷ 21 ∷ 2 ∷ 27 ∷ 1 ∷ 31 ∷ 0 ∷ 36 ∷ 1 ∷ 36 ∷ [])
      ++ (0 ∷ 0 ∷ 0 ∷ 0 ∷ [])
      ++ (1 ∷ 0 ∷ 2048 ∷ [])
      ++ (2 ∷ 2 ∷ 2048 ∷ [])
      ++ (0 ∷ 1 ∷ [])
      ++ (0 ∷ 2 ∷ [])
      ++ (0 ∷ 0 ∷ 0 ∷ 0xffffffff ∷ 0xffffffff ∷ [])
      ++ (0 ∷ 0 ∷ 0 ∷ 0 ∷ 8 ∷ 0 ∷ 0 ∷ 0 ∷ []);
  listing = ascii "OK 1 0\nE 0 0 - - 8 -\nV 1 1 256\nV 2 1 256\nP 0 1 2\nU -\n";
}

-- 8* "Freeze of Frozen {State}: false, reason kept"
abbrev pub case_8 : Case
case_8 = record {
  image =
      (1 ∷ 0 ∷ 2 ∷ 0 ∷ 0 ∷ [])
      ++ (1 ∷ 17 ∷ 1 ∷ 21 ∷ 1 ∷ 24 ∷ 1 ∷ 26 ∷ 0 ∷ 31 ∷ 1 ∷ 31 ∷ [])
      ++ (0 ∷ 0 ∷ 0 ∷ 0 ∷ [])
      ++ (1 ∷ 1 ∷ 2 ∷ [])
      ++ (0 ∷ 1 ∷ [])
      ++ (0 ∷ 0 ∷ 0 ∷ 0xffffffff ∷ 0xffffffff ∷ [])
      ++ (0 ∷ 0 ∷ 0 ∷ 0 ∷ 8 ∷ 0 ∷ 0 ∷ 0 ∷ []);
  listing = ascii "OK 0 0\nV 1 1 2\nP 0 1\nU -\n";
}

-- 10* "Mutate of MaybeFrozen, no ref: MutateGlobal"
abbrev pub case_10a : Case
case_10a = record {
  image =
      (1 ∷ 0 ∷ 2 ∷ 0 ∷ 0 ∷ [])
      ++ (1 ∷ 17 ∷ 1 ∷ 21 ∷ 1 ∷ 24 ∷ 1 ∷ 26 ∷ 0 ∷ 31 ∷ 1 ∷ 31 ∷ [])
      ++ (0 ∷ 0 ∷ 0 ∷ 0 ∷ [])
      ++ (1 ∷ 3 ∷ 2 ∷ [])
      ++ (0 ∷ 1 ∷ [])
      ++ (0 ∷ 0 ∷ 0 ∷ 0xffffffff ∷ 0xffffffff ∷ [])
      ++ (1 ∷ 0 ∷ 0 ∷ 0 ∷ 0 ∷ 0 ∷ 0 ∷ 0 ∷ []);
  listing = ascii "OK 1 0\nE 15 0 - - - 0\nV 1 3 2\nP 0 1\nU -\n";
}

-- 10* "hoisted: MutateFrozen"
abbrev pub case_10b : Case
case_10b = record {
  image =
      (1 ∷ 0 ∷ 2 ∷ 0 ∷ 0 ∷ [])
      ++ (1 ∷ 17 ∷ 1 ∷ 21 ∷ 1 ∷ 24 ∷ 1 ∷ 26 ∷ 0 ∷ 31 ∷ 1 ∷ 31 ∷ [])
      ++ (2 ∷ 0 ∷ 3 ∷ 4 ∷ [])
      ++ (1 ∷ 3 ∷ 2 ∷ [])
      ++ (0 ∷ 1 ∷ [])
      ++ (0 ∷ 0 ∷ 0 ∷ 0xffffffff ∷ 0xffffffff ∷ [])
      ++ (1 ∷ 0 ∷ 0 ∷ 0 ∷ 0 ∷ 0 ∷ 0 ∷ 0 ∷ []);
  listing = ascii "OK 1 0\nE 14 0 - - - 0\nV 1 3 2\nP 0 1\nU -\n";
}

-- 11* "Create twice into 0: 6"
abbrev pub case_11 : Case
case_11 = record {
  image =
      (1 ∷ 0 ∷ 1 ∷ 0 ∷ 0 ∷ [])
      ++ (1 ∷ 17 ∷ 0 ∷ 21 ∷ 0 ∷ 21 ∷ 1 ∷ 21 ∷ 0 ∷ 26 ∷ 2 ∷ 26 ∷ [])
      ++ (0 ∷ 0 ∷ 0 ∷ 0 ∷ [])
      ++ (0 ∷ 0 ∷ 0 ∷ 0xffffffff ∷ 0xffffffff ∷ [])
      ++ (9 ∷ 0 ∷ 0 ∷ 0 ∷ 11 ∷ 0 ∷ 0 ∷ 0 ∷ [])
      ++ (9 ∷ 0 ∷ 0 ∷ 0 ∷ 11 ∷ 0 ∷ 0 ∷ 0 ∷ []);
  listing = ascii "REFUSED 6\n";
}

-- 12* "Alias into an uninitialized place: 7"
abbrev pub case_12a : Case
case_12a = record {
  image =
      (1 ∷ 0 ∷ 3 ∷ 0 ∷ 0 ∷ [])
      ++ (2 ∷ 17 ∷ 2 ∷ 25 ∷ 2 ∷ 31 ∷ 2 ∷ 35 ∷ 0 ∷ 45 ∷ 1 ∷ 45 ∷ [])
      ++ (0 ∷ 0 ∷ 0 ∷ 0 ∷ [])
      ++ (0 ∷ 0 ∷ 0 ∷ 0 ∷ [])
      ++ (1 ∷ 0 ∷ 2048 ∷ [])
      ++ (2 ∷ 0 ∷ 2048 ∷ [])
      ++ (0 ∷ 1 ∷ [])
      ++ (1 ∷ 2 ∷ [])
      ++ (0 ∷ 0 ∷ 0 ∷ 0xffffffff ∷ 0xffffffff ∷ [])
      ++ (1 ∷ 0 ∷ 0 ∷ 0xffffffff ∷ 0xffffffff ∷ [])
      ++ (6 ∷ 0 ∷ 1 ∷ 0 ∷ 0 ∷ 0 ∷ 0 ∷ 0 ∷ []);
  listing = ascii "REFUSED 7\n";
}

-- 12* "Capture is not refused"
abbrev pub case_12b : Case
case_12b = record {
  image =
      (1 ∷ 0 ∷ 3 ∷ 0 ∷ 0 ∷ [])
      ++ (2 ∷ 17 ∷ 2 ∷ 25 ∷ 2 ∷ 31 ∷ 2 ∷ 35 ∷ 0 ∷ 45 ∷ 1 ∷ 45 ∷ [])
      ++ (0 ∷ 0 ∷ 0 ∷ 0 ∷ [])
      ++ (0 ∷ 0 ∷ 0 ∷ 0 ∷ [])
      ++ (1 ∷ 0 ∷ 2048 ∷ [])
      ++ (2 ∷ 0 ∷ 2048 ∷ [])
      ++ (0 ∷ 1 ∷ [])
      ++ (1 ∷ 2 ∷ [])
      ++ (0 ∷ 0 ∷ 0 ∷ 0xffffffff ∷ 0xffffffff ∷ [])
      ++ (1 ∷ 0 ∷ 0 ∷ 0xffffffff ∷ 0xffffffff ∷ [])
      ++ (5 ∷ 0 ∷ 1 ∷ 0 ∷ 0 ∷ 0 ∷ 0 ∷ 0 ∷ []);
  listing = ascii "OK 1 0\nE 5 0 1 - - -\nV 1 0 2048\nV 2 0 2048\nP 0 1\nP 1 2\nU -\n";
}

-- 13* "Primitive source: MaybeAlias emitted"
abbrev pub case_13a : Case
case_13a = record {
  image =
      (1 ∷ 0 ∷ 3 ∷ 0 ∷ 0 ∷ [])
      ++ (2 ∷ 17 ∷ 2 ∷ 25 ∷ 2 ∷ 31 ∷ 2 ∷ 35 ∷ 0 ∷ 45 ∷ 1 ∷ 45 ∷ [])
      ++ (0 ∷ 0 ∷ 0 ∷ 0 ∷ [])
      ++ (0 ∷ 0 ∷ 0 ∷ 0 ∷ [])
      ++ (1 ∷ 2 ∷ 2048 ∷ [])
      ++ (2 ∷ 0 ∷ 2048 ∷ [])
      ++ (0 ∷ 1 ∷ [])
      ++ (1 ∷ 2 ∷ [])
      ++ (0 ∷ 0 ∷ 0 ∷ 0xffffffff ∷ 0xffffffff ∷ [])
      ++ (1 ∷ 0 ∷ 0 ∷ 0xffffffff ∷ 0xffffffff ∷ [])
      ++ (7 ∷ 0 ∷ 1 ∷ 0 ∷ 0 ∷ 0 ∷ 0 ∷ 0 ∷ []);
  listing = ascii "OK 1 0\nE 7 0 1 - - -\nV 1 2 2048\nV 2 0 2048\nP 0 1\nP 1 2\nU -\n";
}

-- 13* "Capture not"
abbrev pub case_13b : Case
case_13b = record {
  image =
      (1 ∷ 0 ∷ 3 ∷ 0 ∷ 0 ∷ [])
      ++ (2 ∷ 17 ∷ 2 ∷ 25 ∷ 2 ∷ 31 ∷ 2 ∷ 35 ∷ 0 ∷ 45 ∷ 1 ∷ 45 ∷ [])
      ++ (0 ∷ 0 ∷ 0 ∷ 0 ∷ [])
      ++ (0 ∷ 0 ∷ 0 ∷ 0 ∷ [])
      ++ (1 ∷ 2 ∷ 2048 ∷ [])
      ++ (2 ∷ 0 ∷ 2048 ∷ [])
      ++ (0 ∷ 1 ∷ [])
      ++ (1 ∷ 2 ∷ [])
      ++ (0 ∷ 0 ∷ 0 ∷ 0xffffffff ∷ 0xffffffff ∷ [])
      ++ (1 ∷ 0 ∷ 0 ∷ 0xffffffff ∷ 0xffffffff ∷ [])
      ++ (5 ∷ 0 ∷ 1 ∷ 0 ∷ 0 ∷ 0 ∷ 0 ∷ 0 ∷ []);
  listing = ascii "OK 0 0\nV 1 2 2048\nV 2 0 2048\nP 0 1\nP 1 2\nU -\n";
}

abbrev pub cases : List Case
cases = case_2 ∷ case_3 ∷ case_4 ∷ case_5 ∷ case_6 ∷ case_7 ∷ case_8 ∷ case_10a ∷ case_10b ∷ case_11 ∷ case_12a ∷ case_12b ∷ case_13a ∷ case_13b ∷ []

-- what is computed of a case at plain tables: its listing, that it is accepted, that its bytes are bytes
pub record Computed (c : Case) : Type 0 where
  pub listed : infer (bytes_of c.image) ≡ c.listing
  pub accepted : refusal_of (bytes_of c.image) ≡ 0
  pub bytes : T (small (bytes_of c.image))

computed_2 : Computed case_2
unfolding computing
computed_2 = record { listed = refl; accepted = refl; bytes = tt }

computed_3 : Computed case_3
unfolding computing
computed_3 = record { listed = refl; accepted = refl; bytes = tt }

computed_4 : Computed case_4
unfolding computing
computed_4 = record { listed = refl; accepted = refl; bytes = tt }

computed_5 : Computed case_5
unfolding computing
computed_5 = record { listed = refl; accepted = refl; bytes = tt }

computed_6 : Computed case_6
unfolding computing
computed_6 = record { listed = refl; accepted = refl; bytes = tt }

computed_7 : Computed case_7
unfolding computing
computed_7 = record { listed = refl; accepted = refl; bytes = tt }

computed_8 : Computed case_8
unfolding computing
computed_8 = record { listed = refl; accepted = refl; bytes = tt }

computed_10a : Computed case_10a
unfolding computing
computed_10a = record { listed = refl; accepted = refl; bytes = tt }

computed_10b : Computed case_10b
unfolding computing
computed_10b = record { listed = refl; accepted = refl; bytes = tt }

computed_11 : Computed case_11
unfolding computing
computed_11 = record { listed = refl; accepted = refl; bytes = tt }

computed_12a : Computed case_12a
unfolding computing
computed_12a = record { listed = refl; accepted = refl; bytes = tt }

computed_12b : Computed case_12b
unfolding computing
computed_12b = record { listed = refl; accepted = refl; bytes = tt }

computed_13a : Computed case_13a
unfolding computing
computed_13a = record { listed = refl; accepted = refl; bytes = tt }

computed_13b : Computed case_13b
unfolding computing
computed_13b = record { listed = refl; accepted = refl; bytes = tt }

pub table : All Computed cases
table = (computed_2, (computed_3, (computed_4, (computed_5, (computed_6, (computed_7, (computed_8, (computed_10a, (computed_10b, (computed_11, (computed_12a, (computed_12b, (computed_13a, (computed_13b, tt))))))))))))))

-- so the call over lent tables ends as the case says
ends : (c : Case) → Computed c → shown (outcome (image_call (words_of (bytes_of c.image)))) ≡ c.listing
unfolding inferred
ends c h =
    sym (ite_eq (refusal_of (bytes_of c.image)) 0 (shown (outcome (image_call (words_of (bytes_of c.image))))) (refusal_line (refusal_of (bytes_of c.image))) h.accepted)
    ∙ inferred_as (bytes_of c.image) c.listing (small_at (bytes_of c.image) h.bytes) h.listed

pub of_the_call : All (λ c. shown (outcome (image_call (words_of (bytes_of c.image)))) ≡ c.listing) cases
of_the_call = all_map cases ends table

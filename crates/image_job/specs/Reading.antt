-- Reading a job image into lent tables: which bytes give which tables, and which refusal (document 01, 'The job image and its program', 'Refused calls').
-- Assumes nothing: these are definitions.
use Rattle.std.specs.Prelude.{ℕ, Bool, not, ◌||◌, List, eqb, length, Result, Ok, Err}
use Rattle.base_tests.specs.Tests.{ite}
use Rattle.lent_copies.specs.Copies.{zeros}
use Rattle.def_refusals.specs.declared.Refusal.{Refusal}
use Rattle.def_refusals.specs.Verdicts.{number_of}
use Rattle.def_effects.specs.declared.Place.{Place}
use Rattle.def_effects.specs.declared.Session.{Session}
use Rattle.def_effects.specs.Places.{no_span}
use Rattle.lent_layout.specs.Layout as Layout
use Rattle.lent_layout.specs.Context.{ContextWords, is_full, emptied}
use Rattle.def_image.specs.Layout.{Image, words_of, next, lvalue, own, identifiers, values, pairs, candidates, count_of}
use Rattle.def_image.specs.Refusals.{refusal_of_words, refusal_of}
use Rattle.def_image.specs.Decode.{span, place_at}
use Rattle.image_decode.specs.Decoded.{decoded_values, decoded_sets, decoded_context, decoded_candidates}
use Rattle.image_job.specs.declared.Job.{Job}

-- ---- what is lent and given

-- the tables that an image fills: values and sets of its state, its context, the records of its candidates
-- as the call for an instruction is lent them
pub record Tables : Type 0 where
  pub values : List ℕ
  pub sets : List ℕ
  pub context : ContextWords
  pub candidates : List ℕ

-- the same, in the order of the function's parameters
abbrev pub tables : List ℕ → List ℕ → ContextWords → List ℕ → Tables
tables vs ss cs xs = record { values = vs; sets = ss; context = cs; candidates = xs }

-- what an image says beside its tables, or the number with which it is refused: the session to start with, lvalue and own function (+ 1, or 0),
-- how many identifiers are in its list, and how many candidates it has
pub record Said : Type 0 where
  pub refusal : ℕ
  pub session : Session
  pub lvalue : Place
  pub own : ℕ
  pub identifiers : ℕ
  pub candidates : ℕ

-- what reading gives: what the image says by value, and the tables as they are then
-- both after a refusal and without one
pub record Read : Type 0 where
  pub job : Said
  pub tables : Tables

-- the same, in the order of the function's parameters
abbrev pub given : Said → List ℕ → List ℕ → ContextWords → List ℕ → Read
given j vs ss cs xs = record { job = j; tables = tables vs ss cs xs }

-- ---- an accepted image

-- the session that an image starts with
-- "next number 1..512"; no access is recorded yet, and no walk was made
abbrev pub session_of : Image → Session
session_of im = record { next = next im; access = 0; span = no_span; entries = 0 }

-- what an accepted image says beside its tables
-- "lvalue's place index; own function + 1 or 0", and two counts
unfoldable pub job_of : Image → Said
job_of im = record {
  refusal = 0;
  session = session_of im;
  lvalue = place_at im (lvalue im);
  own = own im;
  identifiers = count_of im identifiers;
  candidates = count_of im candidates;
}

-- the tables of an accepted image, of the lengths that were lent
-- what the image does not name is zero: "Interned effects, cached numbers, links and diagnostics start empty"
unfoldable pub filled : Image → Tables → Tables
filled im t =
    tables (decoded_values im (count_of im values) (zeros (length t.values)))
    (decoded_sets im (count_of im pairs) (zeros (length t.sets)))
    (decoded_context im (emptied t.context))
    (decoded_candidates im (count_of im candidates) (zeros (length t.candidates)))

-- ---- a refused one

-- it says nothing but its number
-- all else is zero
unfoldable pub no_job : ℕ → Said
no_job n = record {
  refusal = n;
  session = record { next = 0; access = 0; span = span 0 0; entries = 0 };
  lvalue = record { identifier = 0; effect = 0; reactive = 0; span = span 0 0 };
  own = 0;
  identifiers = 0;
  candidates = 0;
}

-- what the code answers, as such a record: of a refused image it is nothing but its number
abbrev pub said_of : Result Job Refusal → Said
said_of (Ok j) = record {
  refusal = 0;
  session = j.session;
  lvalue = j.lvalue;
  own = j.own;
  identifiers = j.identifiers;
  candidates = j.candidates;
}
said_of (Err refusal) = no_job (number_of refusal)

-- and the tables stay as they were
-- "After a refusal state, context and session are as before"
abbrev pub refused_with : ℕ → Tables → Read
refused_with n t = record { job = no_job n; tables = t }

-- ---- reading

-- the words of an image: refused with the lowest class 2 to 5 that they earn, or read
-- "Order 1 to 5 over the whole input"
unfoldable pub read_words : Image → Tables → Read
read_words im t = ite (eqb (refusal_of_words im) 0) (record { job = job_of im; tables = filled im t }) (refused_with (refusal_of_words im) t)

-- whether a lent list has the wrong length: scratch for 16,384 words, 1,024 values, 512 rows of 16 words, a context with room for all,
-- 64 records of 98 words
-- "1 a lent slice or image has the wrong length"
unfoldable pub lent_wrong : ℕ → ℕ → ℕ → Bool → ℕ → Bool
lent_wrong words values sets full candidates =
    not (eqb words 16384)
    || (not (eqb values 1024) || (not (eqb sets 8192) || (not full || not (eqb candidates Layout.candidate_words))))

-- the class that refuses the bytes of an image with all that is lent beside them, or 0
-- a wrong length decides alone; then the image's own class
unfoldable pub read_class : List ℕ → ℕ → Tables → ℕ
read_class bytes words t =
    ite (lent_wrong words (length t.values) (length t.sets) (is_full t.context) (length t.candidates)) 1 (refusal_of bytes)

-- the bytes of an image, with scratch of so many words and tables lent
-- accepted, its tables are those of its words; refused, nothing is changed
unfoldable pub read_image : List ℕ → ℕ → Tables → Read
read_image bytes words t =
    ite (eqb (read_class bytes words t) 0) (record { job = job_of (words_of bytes); tables = filled (words_of bytes) t }) (refused_with (read_class bytes words t) t)

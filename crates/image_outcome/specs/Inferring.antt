-- What the bytes of an image come to, over lent tables: the call that an accepted image makes, and the listing of what comes of it
-- (document 01, 'The job image and its program'). Assumes nothing: these are definitions.
use Rattle.std.specs.Prelude.{ℕ, ◌+◌, ◌-◌, ◌*◌, ◌≤◌, Bool, false, not, ◌||◌, List, ◌++◌, eqb, length, take}
use Rattle.base_tests.specs.Tests.{ite}
use Rattle.lent_copies.specs.Copies.{zeros}
use Rattle.lent_layout.specs.Layout as Layout
use Rattle.lent_layout.specs.Context.{no_context}
use Rattle.def_image.specs.Layout.{Image, words_of}
use Rattle.def_image.specs.Refusals.{refusal_of}
use Rattle.def_image.specs.Listing.{refusal_line}
use Rattle.image_job.specs.Reading.{Said, Tables, tables, job_of, filled, lent_wrong}
use Rattle.call_outcome.specs.Calls.{Answered}
use Rattle.call_outcome.specs.Calls.{Call, Outcome, call, outcome}
use Rattle.image_text.specs.Texts.{lent_listing}
use Rattle.image_pieces.specs.Pieces.{Answer, refused_as, all_pieces}

-- tables at their full size, and nothing in them
-- 1,024 values, 512 rows of 16 words, a context, 64 records of 98 words
abbrev pub empty : Tables
empty = tables (zeros 1024) (zeros 8192) no_context (zeros Layout.candidate_words)

-- how many words the rows of an image's identifiers have
-- 16 words each; the call is lent no more of them
abbrev pub set_words : Said → ℕ
set_words j = 16 * j.identifiers

-- the same of the records of its candidates
-- 98 words each
abbrev pub candidate_words : Said → ℕ
candidate_words j = Layout.effect_words * j.candidates

-- the call that a job makes with the tables that were read: the rows of its identifiers, the records of its candidates,
-- "the function-expression flag as no", an output list and scratch that are zero
unfoldable pub job_call : Said → Tables → Call
job_call j t =
    call t.values (take (set_words j) t.sets) false t.context j.session (take (candidate_words j) t.candidates) j.lvalue j.own
    (zeros Layout.output_words) (zeros (1024 + set_words j)) (zeros Layout.most_saved)

-- the call that the words of an accepted image make
-- "Interned effects, cached numbers, links and diagnostics start empty"
abbrev pub image_call : Image → Call
image_call im = job_call (job_of im) (filled im empty)

-- what is shown of what comes of a call
-- the listing, or "A refusal prints only `REFUSED n`."
unfoldable pub shown : Outcome → List ℕ
shown o =
    ite (eqb o.applied.refusal 0)
    (lent_listing o.output o.applied.count o.applied.entries o.values o.sets o.applied.session.access)
    (refusal_line o.applied.refusal)

-- what is shown of the bytes of an image
-- "Order 1 to 5 over the whole input; then the first met as the steps run"
unfoldable pub inferred : List ℕ → List ℕ
inferred bytes = ite (eqb (refusal_of bytes) 0) (shown (outcome (image_call (words_of bytes)))) (refusal_line (refusal_of bytes))

-- whether the memory for the call has the wrong length: an output list of 1,120 records, scratch for a state of 512 identifiers
-- and for the tables of a context that may be written into
unfoldable pub memory_wrong : ℕ → ℕ → ℕ → Bool
memory_wrong output scratch64 scratch32 = not (eqb output Layout.output_words) || (not (eqb scratch64 9216) || not (eqb scratch32 Layout.most_saved))

-- whether anything that is lent beside the bytes has the wrong length: words, tables, output list, scratch
unfoldable pub any_wrong : ℕ → ℕ → ℕ → Bool → ℕ → ℕ → ℕ → ℕ → Bool
any_wrong words values sets full candidates output scratch64 scratch32 =
    memory_wrong output scratch64 scratch32 || lent_wrong words values sets full candidates

-- the text that the bytes of an image come to, by the lengths of all that is lent beside them
-- "1 a lent slice or image has the wrong length"
unfoldable pub written : List ℕ → ℕ → ℕ → ℕ → Bool → ℕ → ℕ → ℕ → ℕ → List ℕ
written bytes words values sets full candidates output scratch64 scratch32 =
    ite (any_wrong words values sets full candidates output scratch64 scratch32) (refusal_line 1) (inferred bytes)

-- ---- what the pieces of that text are read from

-- what is shown beside the tables, the values, the sets and the output list
pub record Left : Type 0 where
  pub shown : Answer
  pub values : List ℕ
  pub sets : List ℕ
  pub output : List ℕ

-- the same, in the order of the function's parameters
abbrev pub left : Answer → List ℕ → List ℕ → List ℕ → Left
left s vs ss os = record { shown = s; values = vs; sets = ss; output = os }

-- what is shown of what a call answers
unfoldable pub answered : Answered → Answer
answered a =
    ite (eqb a.refusal 0) (record { refusal = 0; count = a.count; entries = a.entries; access = a.session.access }) (refused_as a.refusal)

-- what a call leaves, in tables at their full size: after the rows of the identifiers zeros, up to so many words
unfoldable pub keeps : ℕ → Outcome → Left
keeps n o = left (answered o.applied) o.values (o.sets ++ zeros (n - length o.sets)) o.output

-- after a refusal everything is zero but the number
unfoldable pub settled : Left → Left
settled x =
    ite (eqb x.shown.refusal 0) x
    (left x.shown (zeros (length x.values)) (zeros (length x.sets)) (zeros (length x.output)))

-- a refusal, in tables of given lengths
abbrev pub nothing : ℕ → ℕ → ℕ → ℕ → Left
nothing n values sets output = left (refused_as n) (zeros values) (zeros sets) (zeros output)

-- what the bytes of an image leave, by the lengths of all that is lent beside them
-- "Order 1 to 5 over the whole input; then the first met as the steps run"
unfoldable pub leaves : List ℕ → ℕ → ℕ → ℕ → Bool → ℕ → ℕ → ℕ → ℕ → Left
leaves bytes words values sets full candidates output scratch64 scratch32 =
    ite (any_wrong words values sets full candidates output scratch64 scratch32) (nothing 1 values sets output)
    (ite (eqb (refusal_of bytes) 0) (settled (keeps sets (outcome (image_call (words_of bytes))))) (nothing (refusal_of bytes) values sets output))

-- its pieces, one after the other
abbrev pub pieces_of : Left → List ℕ
pieces_of x = all_pieces x.shown x.values x.sets x.output

-- the lent tables have room for a job: its rows, its records, its scratch
pub record Fits (ss xs s64 : List ℕ) (j : Said) : Type 0 where
  pub rows : set_words j ≤ length ss
  pub records : candidate_words j ≤ length xs
  pub scratch : 1024 + set_words j ≤ length s64

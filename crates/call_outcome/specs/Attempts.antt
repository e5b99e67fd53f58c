-- What holds of lent lists that no class refuses, as the run needs it. Assumes nothing: these are definitions.
use Rattle.std.specs.Prelude.{ℕ, ◌+◌, ◌*◌, ◌/◌, ◌≤◌, ◌≡◌, List, ltb, length, get_or, Result, Ok, Err}
use Rattle.def_refusals.specs.declared.Refusal.{Refusal}
use Rattle.lent_work.specs.declared.Run.{Run}
use Rattle.base_tests.specs.Tests.{ite}
use Rattle.lent_copies.specs.Copies.{zeros}
use Rattle.lent_layout.specs.Layout as Layout
use Rattle.lent_layout.specs.Context.{ContextWords, unused}
use Rattle.lent_context.specs.Lent.{interned_count, instance_count}
use Rattle.call_undo.specs.declared.Lengths.{Lengths}
use Rattle.call_undo.specs.Saves.{saved_words}

-- a length, but no more than a limit
-- so that it is a word of 32 bits for any list
abbrev pub at_most : ℕ → ℕ → ℕ
at_most limit n = ite (ltb limit n) limit n

-- what an instruction has by value at its end: where it is refused, what it began with
abbrev pub run_or : Run → Result Run Refusal → Run
run_or start (Ok run) = run
run_or start (Err refusal) = start

-- how many words each table of a context has that an instruction may write into, but no more than it can have
abbrev pub lengths_of : ContextWords → Lengths
lengths_of c = record {
  contexts = at_most 5120 (length c.contexts);
  links = at_most 1024 (length c.links);
  keys = at_most 14336 (length c.keys);
  key_order = at_most 512 (length c.key_order);
  effect_order = at_most 2048 (length c.effect_order);
}

-- lists of the right lengths: values, sets of n identifiers, a context in which nothing stands after its last interned effect and its last
-- diagnostic, an output list of zeros, candidates and scratch
pub record Ready (vs ss : List ℕ) (c : ContextWords) (os xs s64 s32 : List ℕ) : Type 0 where
  pub count : ℕ
  pub values : length vs ≡ 1024
  pub sets : length ss ≡ 16 * count
  pub most : count ≤ 512
  pub contexts : length c.contexts ≤ 5120
  pub links : length c.links ≡ 1024
  pub keys : length c.keys ≤ 14336
  pub key_order : length c.key_order ≤ 512
  pub effect_order : length c.effect_order ≤ 2048
  pub effects_after : (k : ℕ) → interned_count c * Layout.effect_words ≤ k → get_or c.effects k 0 ≡ 0
  pub diagnostics_after : (k : ℕ) → instance_count c ≤ k → get_or c.diagnostics k unused ≡ unused
  pub output : os ≡ zeros Layout.output_words
  pub candidates : length xs / Layout.effect_words ≤ 64
  pub scratch64 : length s64 ≡ 1024 + length ss
  pub scratch32 : length s32 ≡ saved_words (lengths_of c)

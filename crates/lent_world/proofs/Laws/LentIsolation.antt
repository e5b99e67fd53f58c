-- The lent tables are lawful, so demand 3 holds of the definition over lent lists. Assumes nothing.
use Rattle.std.specs.Prelude.{ℕ, ◌*◌, ◌≤◌, ◌≡◌, ◌&&◌, length}
use Rattle.std.proofs.Common.{arith}
use lib.Dec.{ltb}
use Rattle.def_transfer.specs.Monad.{Res, ok, refused, Done}
use Rattle.def_transfer.specs.Tables.{World}
use Rattle.def_transfer.specs.Instruction.{Instruction, run, apply_signature}
use Rattle.def_transfer.specs.Reach.{Reach, Agree, Alike}
use Rattle.def_transfer.specs.Lawful.{Lawful}
use Rattle.def_transfer.proofs.Laws.Isolation.{isolation, run_ends}
use Rattle.lent_layout.specs.Context.{ContextWords}
use Rattle.lent_world.specs.World.{lent}
use Rattle.lent_world.proofs.Laws.State.{FitValues, fit_value, value_cong, value_other, FitSets, fit_set, set_cong, set_other, set_has}
use Rattle.lent_world.proofs.Laws.Context.{effect_same, diagnostic_same, read_same, key_put, key_links, key_contexts, link_put, link_keys, link_contexts}
use Rattle.lent_context.proofs.Laws.Ordered.{found_under}
use Rattle.lent_context.proofs.Laws.Numbered.{number_found}
use Rattle.lent_world.proofs.Laws.LentLawful.{KeptFrom, kept_start, effect_kept, diagnostic_kept, read_kept, key_kept, link_kept}

-- ---- the lent tables are lawful

-- of n identifiers, and of contexts made of one with room for all links
-- a slice that ends within a link would take its first word and not the second
pub lent_lawful : (n : ℕ) (c₀ : ContextWords) → 1024 ≤ length c₀.links → Lawful lent
lent_lawful n c₀ l = record {
  FitValues = FitValues;
  fit_value = fit_value;
  value_cong = value_cong;
  value_other = value_other;
  FitSets = FitSets n;
  fit_set = fit_set n;
  set_cong = set_cong n;
  set_other = set_other;
  set_has = set_has;
  effect_found = found_under;
  number_found = number_found;
  Kept = KeptFrom c₀;
  effect_same = effect_same;
  diagnostic_same = diagnostic_same;
  read_same = read_same;
  key_put = key_put;
  key_links = key_links;
  key_contexts = key_contexts;
  link_put = λ c v f x g p. link_put c v f x g (let e = p.links in let z : 1024 ≤ length c.links = omega arith in z);
  link_keys = link_keys;
  link_contexts = link_contexts;
  effect_kept = effect_kept c₀;
  diagnostic_kept = diagnostic_kept c₀;
  read_kept = read_kept c₀;
  key_kept = key_kept c₀;
  link_kept = link_kept c₀;
}

-- a world of lent lists of the right lengths, of n identifiers
-- any other length is refused before the step begins
pub record Sized (n : ℕ) (w : World lent) : Type 0 where
  pub values : length w.state.values ≡ 1024
  pub sets : length w.state.sets ≡ 16 * n
  pub links : 1024 ≤ length w.rest.context.links

-- demand 3 of the definition over lent lists
-- two worlds with equal session and context whose states agree on the instruction's reach: both calls do the same, and touch nothing outside
pub lent_isolation : (n : ℕ) (ins : Instruction) (w u : World lent) → Sized n w → Sized n u → w.rest.session ≡ u.rest.session → w.rest.context ≡ u.rest.context
    → Agree lent (Reach lent ins w.rest.session w.rest.context w.state) w.state u.state
    → Alike lent (Reach lent ins w.rest.session w.rest.context w.state) w.state u.state (apply_signature ins w) (apply_signature ins u)
unfolding lent_lawful
lent_isolation n ins w u p q e c a =
    isolation (lent_lawful n w.rest.context p.links) ins w u e c
    (record { values = p.values; sets = p.sets }) (record { values = q.values; sets = q.sets }) (kept_start w.rest.context) a

-- refused with 6 to 11, or not at all
abbrev pub InRange : Res (World lent) Done → Type 0
InRange (ok a w) = Unit {0}
InRange (refused m w) = lib.Dec.T (ltb 5 m && ltb m 12)

-- the world that a computation ends in, refused or not
-- what a contract says of a function's exit
abbrev pub after : Res (World lent) Done → World lent
after (ok a w) = w
after (refused m w) = w

-- what the run of an instruction ends with: refused with 6 to 11 or not at all, lists of the same lengths, and a context made of the one it began with
pub record LentEnded (n : ℕ) (c₀ : ContextWords) (x : Res (World lent) Done) : Type 0 where
  pub range : InRange x
  pub values : length (after x).state.values ≡ 1024
  pub sets : length (after x).state.sets ≡ 16 * n
  pub kept : KeptFrom c₀ (after x).rest.context

-- so ends every instruction, from every world of lent lists
pub lent_ends : (n : ℕ) (ins : Instruction) (w : World lent) → Sized n w → LentEnded n w.rest.context (run ins w)
unfolding lent_lawful
lent_ends n ins w p = go (run ins w) (run_ends (lent_lawful n w.rest.context p.links) ins w (record { values = p.values; sets = p.sets }) (kept_start w.rest.context))
  where
    go : (x : Res (World lent) Done) → Rattle.def_transfer.proofs.Laws.Isolation.Ended (lent_lawful n w.rest.context p.links) x → LentEnded n w.rest.context x
    go (ok a u) h = record { range = tt; values = h.fit.values; sets = h.fit.sets; kept = h.kept }
    go (refused m u) h = record { range = h.range; values = h.fit.values; sets = h.fit.sets; kept = h.kept }

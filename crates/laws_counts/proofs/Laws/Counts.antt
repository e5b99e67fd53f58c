-- No instruction lists more than 32 + 17 effects for each candidate, nor makes more than 4,096 entries for each Freeze: of any tables, of the
-- lent ones and of the functions. Assumes nothing.
use Rattle.std.specs.Prelude.{ℕ, suc, ◌+◌, ◌*◌, ◌≤◌, ◌≡◌, refl, List, [], ◌∷◌, ◌++◌, length}
use native.Mathlib.Omega.{arith}
use Rattle.std.proofs.Common.{ap}
use lib.Dec.{ltb}
use Rattle.base_tests.specs.Tests.{All}
use Rattle.def_effects.specs.Effects.{AliasingEffect}
use Rattle.def_effects.specs.Keys.{effect_key}
use Rattle.def_transfer.specs.Monad.{◌>>=◌, ◌>>◌, and_then}
use Rattle.def_transfer.specs.Tables.{Tables, Work, World}
use Rattle.def_transfer.specs.State.{change}
use Rattle.def_transfer.specs.Context.{emit, put_initialized, start_freeze, count_entry}
use Rattle.def_transfer.specs.Walk.{walk}
use Rattle.def_transfer.specs.Instruction.{Instruction, apply_signature}
use Rattle.def_transfer.specs.Pure.{pure}
use Rattle.def_transfer.proofs.Laws.Pure.{found_key}
use Rattle.lent_world.specs.World.{lent, Listed, put_listed, one_more}
use Rattle.lent_context.proofs.Laws.Ordered.{found_under}
use Rattle.laws_counts.proofs.Laws.Grows.{after, Grows, bind_keeps, refuse_grows, if_grows, each_keeps}
use Rattle.laws_counts.proofs.Laws.Keeps.{ask_grows, enter_grows, walk_grows}
use Rattle.laws_counts.proofs.Laws.Steps.{Measure, Finding, mutated, lists, walks_of}
use Rattle.laws_counts.proofs.Laws.Runs.{signature_grows}
use Rattle.laws_counts.proofs.Laws.Most.{choice, candidates_most, walks_most}
use Rattle.laws_counts.proofs.Laws.Entries.{room, entry_room}

-- ---- what an instruction of the document's sizes comes to

-- "candidates (64)", "captures (16)", "mutated inside (32)": the sizes that document 01 allows an instruction
pub record Fits (T : Tables) (ins : Instruction) (c : T.Context) : Type 0 where
  pub few : length ins.candidates ≤ 64
  pub captures : All (λ e. length (effect_key e).captures ≤ 16) ins.candidates
  pub inside : mutated T ins.own c ≤ 32

-- ---- the effects listed, of any tables

module _ {T : Tables} (found : Finding T) (count : T.Listed → ℕ) (one_more_is : (l : T.Listed) (e : AliasingEffect) → count (T.put_listed l e) ≤ suc (count l)) where
  -- how many effects are listed so far
  abbrev listed_so_far : Work T → ℕ
  listed_so_far k = count k.listed

  -- an entry is counted apart
  entry_lists : Grows listed_so_far 0 (count_entry {T = T})
  unfolding count_entry change
  entry_lists = bind_keeps (ask_grows _) (λ full. if_grows full (refuse_grows 11) (record { grows = λ w. omega arith }))

  -- one more where an effect is listed, as many as before in a walk
  listings : Measure T
  unfolding emit change start_freeze put_initialized
  listings = record {
    of = listed_so_far;
    listing = 1;
    walking = 0;
    emits = λ e. record { grows = λ w. let h = one_more_is w.rest.work.listed e in omega arith };
    walks = λ vs reason. walk_grows vs reason (record { grows = λ w. omega arith }) entry_lists;
    marks = λ i. record { grows = λ w. omega arith };
  }

  -- the effects that an instruction lists, refused or not: no more than its early errors and its candidates' weights
  pub listed_bound : (ins : Instruction) (w : World T) → count (after (apply_signature ins w)).listed ≤ count T.none_listed + lists T ins w.rest.context
  unfolding listings
  listed_bound ins w = let h = signature_grows found listings ins w in omega arith

  -- the same for an instruction that fits: 32, and 17 for each candidate
  -- "32 + 64 × 17"
  pub listed_most : (ins : Instruction) (w : World T) → Fits T ins w.rest.context → count T.none_listed ≡ 0 → count (after (apply_signature ins w)).listed ≤ 32 + 17 * length ins.candidates
  listed_most ins w f z = let h = listed_bound ins w in let c = candidates_most ins.candidates f.captures in let i = f.inside in omega arith

-- ---- the entries of its walks, of any tables

module _ {T : Tables} (found : Finding T) (one_more_is : (n : ℕ) → T.one_more n ≤ suc n) where
  -- one walk makes 4,096 entries at the most
  -- "each Freeze starts from zero"
  walk_entries : (vs : List ℕ) (reason : ℕ) → Grows (λ k. k.entries) 4096 (walk {T = T} vs reason)
  unfolding walk start_freeze change ◌>>◌ ◌>>=◌ and_then
  walk_entries vs reason = record { grows = λ w. let h = (each_keeps {μ = room {T = T}} {b = 0} vs (λ v. enter_grows 4097 reason v (entry_room one_more_is))).grows (fresh w) in omega arith }
    where
      fresh : World T → World T
      fresh w = record {
        state = w.state;
        rest = record {
          session = w.rest.session;
          context = w.rest.context;
          work = record { initialized = w.rest.work.initialized; listed = w.rest.work.listed; freeze_entries = 0; entries = w.rest.work.entries };
        };
      }

  -- the entries of an instruction: 4,096 for a walk, none else
  entering : Measure T
  unfolding emit change put_initialized
  entering = record {
    of = λ k. k.entries;
    listing = 0;
    walking = 4096;
    emits = λ e. record { grows = λ w. omega arith };
    walks = walk_entries;
    marks = λ i. record { grows = λ w. omega arith };
  }

  -- the entries of an instruction, refused or not: 4,096 for each Freeze among its candidates
  pub entries_bound : (ins : Instruction) (w : World T) → (after (apply_signature ins w)).entries ≤ 4096 * walks_of ins
  unfolding entering
  entries_bound ins w = let h = signature_grows found entering ins w in omega arith

  -- so no more than 4,096 for each candidate
  pub entries_most : (ins : Instruction) (w : World T) → (after (apply_signature ins w)).entries ≤ 4096 * length ins.candidates
  entries_most ins w = let h = entries_bound ins w in let k = walks_most ins.candidates in omega arith

-- ---- of the lent tables

-- an effect listed is one more at the most
-- none, where the count is the largest that a word holds
lent_one_more : (l : Listed) (e : AliasingEffect) → (put_listed l e).count ≤ suc l.count
unfolding put_listed
lent_one_more l e = choice (λ (m : Listed). m.count ≤ suc l.count) (ltb l.count 4294967295) (omega arith) (omega arith)

-- an entry counted is one more at the most
-- none, where the count is the largest that a word holds
lent_entry : (n : ℕ) → one_more n ≤ suc n
unfolding one_more
lent_entry n = choice (λ m. m ≤ suc n) (ltb n 4294967295) (omega arith) (omega arith)

-- "The output list has 1,120 records (32 + 64 × 17, so it suffices)": over lent tables, refused or not
-- for every instruction of the document's sizes
pub lent_listed : (ins : Instruction) (w : World lent) → Fits lent ins w.rest.context → (after (apply_signature ins w)).listed.count ≤ 32 + 17 * length ins.candidates
lent_listed ins w f = listed_most {T = lent} found_under (λ l. l.count) lent_one_more ins w f refl

-- 32 + 64 × 17 is 1,120
pub lent_suffices : (ins : Instruction) (w : World lent) → Fits lent ins w.rest.context → (after (apply_signature ins w)).listed.count ≤ 1120
lent_suffices ins w f = let h = lent_listed ins w f in let n = f.few in omega arith

-- the entries of an instruction over lent tables: 4,096 for each Freeze, and so for each candidate
pub lent_entries : (ins : Instruction) (w : World lent) → (after (apply_signature ins w)).entries ≤ 4096 * walks_of ins
lent_entries ins w = entries_bound {T = lent} found_under lent_entry ins w

-- ---- of the functions: the definition's own counts, without any limit

-- a list with one more effect at its end
pub append_length : (l : List AliasingEffect) (e : AliasingEffect) → length (l ++ (e ∷ [])) ≡ suc (length l)
append_length [] e = refl
append_length (x ∷ l) e = ap suc (append_length l e)

-- the effects listed, over functions
-- "32 + 64 × 17"
pub pure_listed : (ins : Instruction) (w : World pure) → Fits pure ins w.rest.context → length (after (apply_signature ins w)).listed ≤ 32 + 17 * length ins.candidates
pure_listed ins w f = listed_most {T = pure} (λ c. found_key c.interned) length (λ l e. let h = append_length l e in omega arith) ins w f refl

-- the entries, over functions
-- 4,096 for each Freeze
pub pure_entries : (ins : Instruction) (w : World pure) → (after (apply_signature ins w)).entries ≤ 4096 * walks_of ins
pure_entries ins w = entries_bound {T = pure} (λ c. found_key c.interned) (λ n. omega arith) ins w

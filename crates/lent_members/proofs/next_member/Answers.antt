-- `lent_members::next_member` meets its contract. The loop's invariant: the next member from `from` on is the one from the word's first place on.
-- Assumes nothing.
use native.Mathlib.Omega.{arith}
use Rattle.std.specs.Prelude.{◌≡◌, ◌+◌, ◌*◌, ◌/◌, ◌%◌, ◌^◌}
use Rattle.std.specs.Int.Count.{count_trailing_zeros}
use Rattle.std.proofs.Common.{refl, sym, ap, ◌∙◌}
use Rattle.lent_sets.specs.Rows.{next_member, row_word}
use Rattle.lent_sets.proofs.Laws.Code.{next_none, next_found, next_end}
use Rattle.lent_members.proofs.Laws.Members.{from_found, from_past}
use Rattle.lent_members.proofs.next_member.Goals as goal

pub returns-then-from-ge1024 : goal.returns-then-from-ge1024
returns-then-from-ge1024 c =
    let a = c.args in
    let e = next_end a.rows.now a.i a.from (omega arith) in
    from_past a.rows.now a.i a.from (next_member a.rows.now a.i a.from) refl (omega arith)

pub returns-then-rest-ne0 : goal.returns-then-rest-ne0
returns-then-rest-ne0 c =
    let a = c.args in
    let m = next_found a.rows.now a.i a.from _ c.row_word.ensures (omega arith) c.row_word.type_inv c.if-rest-ne0.true in
    from_found a.rows.now a.i a.from _ m.0 m.1

pub loop-w-init : goal.loop-w-init
loop-w-init c =
    let a = c.args in
    next_none a.rows.now a.i a.from _ c.row_word.ensures (omega arith) c.if-rest-ne0.false

pub returns-then-word-ne0 : goal.returns-then-word-ne0
returns-then-word-ne0 c =
    let a = c.args in
    let w = c.loop-w.w in
    let x = c.row_word-word.result in
    let p : w ≡ w * 64 / 64 = omega arith in
    let z : w * 64 % 64 ≡ 0 = omega arith in
    let s : x / 2 ^ (w * 64 % 64) ≡ x = ap (λ k. x / 2 ^ k) z ∙ (let d : x / 1 ≡ x = omega arith in d) in
    let m = next_found a.rows.now a.i (w * 64) x (c.row_word-word.ensures ∙ ap (row_word a.rows.now a.i) p) (omega arith) c.row_word-word.type_inv (λ q. c.if-word-ne0.true (sym s ∙ q)) in
    let t = ap (λ y. w * 64 + count_trailing_zeros 64 y) s in
    from_found a.rows.now a.i a.from _ (sym t ∙ m.0 ∙ sym c.loop-w.invariant) (omega (arith, t, m.1))

pub loop-w-preserved : goal.loop-w-preserved
loop-w-preserved c =
    let a = c.args in
    let w = c.loop-w.w in
    let x = c.row_word-word.result in
    let p : w ≡ w * 64 / 64 = omega arith in
    let q : (w * 64 / 64 + 1) * 64 ≡ (w + 1) * 64 = omega arith in
    let z : w * 64 % 64 ≡ 0 = omega arith in
    let s : x / 2 ^ (w * 64 % 64) ≡ x = ap (λ k. x / 2 ^ k) z ∙ (let d : x / 1 ≡ x = omega arith in d) in
    c.loop-w.invariant
    ∙ next_none a.rows.now a.i (w * 64) x (c.row_word-word.ensures ∙ ap (row_word a.rows.now a.i) p) (omega arith) (s ∙ c.if-word-ne0.false)
    ∙ ap (next_member a.rows.now a.i) q

pub returns : goal.returns
returns c =
    let a = c.args in
    let e = c.loop-w.invariant ∙ next_end a.rows.now a.i (c.loop-w.w * 64) (omega arith) in
    from_past a.rows.now a.i a.from (next_member a.rows.now a.i a.from) refl (omega arith)

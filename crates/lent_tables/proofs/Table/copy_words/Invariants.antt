use Rattle.std.specs.Prelude.{◌+◌, ◌-◌, ◌≤◌, ◌≡◌, length}
use Rattle.lent_tables.specs.Words.{copied_words}
use Rattle.lent_tables.proofs.Table.copy_words.Given as goal

abbrev pub invariant-loop-k : goal.invariant-loop-k
invariant-loop-k l =
    (l.k ≤ l.n)
    × (copied_words l.self l.xs l.i (l.w + l.k) (l.n - l.k) l.out (l.at + l.k) ≡ copied_words l.self l.xs l.i l.w l.n l.initial.out l.at)
    × (length l.out ≡ length l.initial.out)

use Rattle.std.proofs.Common.{rules, arith, ◌≡◌, ℕ, ◌+◌, ◌-◌, ap, ◌∙◌}
use Rattle.lent_context.specs.Lent.{diagnostic_in}
use Rattle.refuse_words.specs.Classes.{lowest_below}
use Rattle.refuse_tables.specs.TableClasses.{unused_class}
use Rattle.refuse_records.specs.Accepting.{unused_from}
use Rattle.refuse_records.proofs.unused_from.Goals as goal

pub returns : goal.returns
unfolding unused_from diagnostic_in
returns c =
    let left : c.saturating_sub-left.result ≡ 256 - c.args.n = omega arith in
    c.lowest.ensures (λ k. unused_class (diagnostic_in c.args.diagnostics.now (c.args.n + k))) (λ k v l p. search rules)
    ∙ ap (λ (m : ℕ). lowest_below m (λ k. unused_class (diagnostic_in c.args.diagnostics.now (c.args.n + k)))) left

-- Which of two keys of the code comes first, but for their captures. Assumes nothing: these are definitions.
use Rattle.std.specs.declared.cmp.Ordering.{Ordering}
use Rattle.base_search.specs.Comparings.{compare_numbers, first}
use Rattle.def_key_order.specs.KeyOrder.{optional}
use Rattle.lent_keys.specs.declared.Key.{Key}

-- `compare_keys` without its last part
unfoldable pub compare_heads : Key → Key → Ordering
compare_heads a b =
    first (compare_numbers a.code b.code)
    (first (compare_numbers (optional a.from) (optional b.from))
    (first (compare_numbers (optional a.into) (optional b.into))
    (first (compare_numbers a.kind b.kind)
    (first (compare_numbers a.reason b.reason)
    (first (compare_numbers (optional a.function) (optional b.function))
    (compare_numbers a.identity b.identity))))))

-- A list of modules by rising numbers, in which those of one number stand as they did, is one list.
use Rattle.std.proofs.Common.{◌≡◌, refl, sym, ap, ◌∙◌, nat_le, List, [], ◌∷◌, if◌then◌else◌}
use Rattle.std.specs.List.Sorted.{IsSortedByKey, IsStableByKey}
use Rattle.std.specs.Ordering.{nat_cmp}
use Rattle.index_format.specs.Listing.{KeyValue}
use Rattle.index_format.proofs.StableOrder.{insert_by, sorted_by, stable-sorted_by}
use Rattle.dependency_lines.specs.Modules.{insert_module, by_number}

insert_module-by : (m : KeyValue) (ns : List KeyValue)
    → insert_module m ns ≡ insert_by (λ n. n.1.0) m ns
insert_module-by m [] = refl
insert_module-by m (n ∷ ns) =
    ap (λ us. if nat_le m.1.0 n.1.0 then m ∷ n ∷ ns else n ∷ us) (insert_module-by m ns)

by_number-sorted : (ms : List KeyValue) → by_number ms ≡ sorted_by (λ m. m.1.0) ms
by_number-sorted [] = refl
by_number-sorted (m ∷ ms) =
    ap (insert_module m) (by_number-sorted ms) ∙ insert_module-by m (sorted_by (λ n. n.1.0) ms)

pub by_number-is : (before after : List KeyValue)
    → IsSortedByKey (λ (m : KeyValue). m.1.0) nat_cmp after
    → IsStableByKey (λ (m : KeyValue). m.1.0) nat_cmp before after → after ≡ by_number before
by_number-is before after rises stable =
    stable-sorted_by (λ m. m.1.0) (λ p. ([], (p, []))) (λ p. refl) before after rises stable
    ∙ sym (by_number-sorted before)

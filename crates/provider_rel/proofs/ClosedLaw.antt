-- If no walk leads back, the closure of a module has whatever provides its needs and the needs of
-- its members.
use Rattle.std.proofs.Common.{◌≡◌, ℕ, suc, ◌+◌, ◌<◌, Bool, true, false, cond, subst, inl, inr, List}
use Rattle.std.proofs.Common.{[], ◌∷◌, ◌++◌, length, map, Option, Some, None, option_map}
use Rattle.std.proofs.Common.{option_and_then, find, refl, sym, ap, ◌∙◌, arith}
use Rattle.std.specs.Prelude.{not, ◌⊎◌}
use Rattle.std.specs.List.{cons_option, filter_map, position_or_len, slice_get}
use Rattle.std.specs.Option.{option_map_or}
use Rattle.std.specs.Str.{bytes_eq}
use Rattle.std.proofs.lemmas.Bool.{true≢false, or_left, or_right, eq-eqb}
use Rattle.std.proofs.lemmas.Slice.Eq.{bytes_eq-Decides}
use Rattle.km_names.specs.First.{first}
use Rattle.relation_order.specs.Sets.{Relation, has, below}
use Rattle.relation_order.specs.Reached.{reached}
use Rattle.relation_order.specs.Least.{least_order}
use Rattle.relation_order.specs.Cycle.{cycle}
use Rattle.relation_order.specs.Closures.{closure}
use Rattle.relation_order.proofs.Saturation.{keeps}
use Rattle.relation_order.proofs.Lists.{has-range}
use Rattle.relation_order.proofs.Complete.{all-listed_from_empty}
use Rattle.relation_order.proofs.ReachedLaws.{reached-step, reached-further, reached-members}
use Rattle.relation_order.proofs.LeastLaws.{least-members}
use Rattle.relation_order.proofs.Restricted.{least-part}
use Rattle.symbol_binding.specs.Symbols.{Export, Need, Module, Kernel}
use Rattle.symbol_binding.specs.Provider.{Owner, ByKernel, ByModule, Provided, of_first, of_one}
use Rattle.symbol_binding.specs.Provider.{module_exports, provider, uses, owning_module}
use Rattle.provider_rel.specs.Relation.{place, uses_at}

-- all that is reached stands in the closure
pub closure-whole : (r : Relation) (n x y : ℕ) → cycle r (below n) ≡ []
    → has (reached r (below n) x) y ≡ true → has (below n) y ≡ true
    → has (closure r (below n) x) y ≡ true
closure-whole r n x y none there member =
    let p = has (reached r (below n) x) in
    ap (λ set. has (least_order r set) y) (reached-members r (below n) x)
    ∙ ap (λ order. has order y)
    (sym (least-part r (below n) p (λ v w a b c. reached-further r (below n) x v w a c b)))
    ∙ keeps p (least_order r (below n)) y there (all-listed_from_empty r (below n) none y member)

-- what an item goes to stands in its closure, and so does what a member goes to
pub closure-first : (r : Relation) (n x y : ℕ) → cycle r (below n) ≡ [] → r x y ≡ true
    → has (below n) y ≡ true → has (closure r (below n) x) y ≡ true
closure-first r n x y none goes member =
    closure-whole r n x y none (reached-step r (below n) x y goes member) member

pub closure-more : (r : Relation) (n x y z : ℕ) → cycle r (below n) ≡ []
    → has (closure r (below n) x) y ≡ true → r y z ≡ true → has (below n) z ≡ true
    → has (closure r (below n) x) z ≡ true
closure-more r n x y z none inside goes member =
    closure-whole r n x z none
    (reached-further r (below n) x y z (least-members r (reached r (below n) x) y inside) goes
    member) member

-- what finds a module among some needs
has-owner : (f : Need → Option Module) (at : Module → ℕ) (before after : List Need) (n : Need)
    (p : Module)
    → f n ≡ Some p → has (map at (filter_map f (before ++ n ∷ after))) (at p) ≡ true
has-owner f at [] after n p is =
    ap (λ o. has (map at (cons_option o (filter_map f after))) (at p)) is
    ∙ or_left _ _ (eq-eqb (at p) (at p) refl)
has-owner f at (b ∷ bs) after n p is = go (f b) (has-owner f at bs after n p is)
  where
    go : (o : Option Module) → has (map at (filter_map f (bs ++ n ∷ after))) (at p) ≡ true
        → has (map at (cons_option o (filter_map f (bs ++ n ∷ after)))) (at p) ≡ true
    go None rest = rest
    go (Some q) rest = or_right _ _ rest

-- what provides a need of a module is used by it
pub uses-has : (tree : List Module) (kernel : Kernel) (m p : Module) (e : Export)
    (before after : List Need) (n : Need)
    → m.face.needs ≡ before ++ n ∷ after
    → provider tree kernel n.name ≡ Some (record { owner = ByModule p; export = e })
    → has (map (place tree) (uses tree kernel m)) (place tree p) ≡ true
uses-has tree kernel m p e before after n is by =
    ap (λ needs. has (map (place tree) (filter_map owner needs)) (place tree p)) is
    ∙ has-owner owner (place tree) before after n p
    (ap (λ o. option_and_then (λ q. owning_module q.owner) o) by)
  where
    owner : Need → Option Module
    owner = λ n. option_and_then (λ q. owning_module q.owner) (provider tree kernel n.name)

module_or : Module → Owner Module → Module
module_or d ByKernel = d
module_or d (ByModule m) = m

is_module : Owner Module → Bool
is_module ByKernel = false
is_module (ByModule m) = true

by-module : (q : Provided Module) → Option (Provided Module) → Bool
by-module q None = false
by-module q (Some r) = is_module r.owner

-- the module that provides a name is the first of the tree that exports it
from-tree : (tree : List Module) (kernel : Kernel) (x : List ℕ) (p : Module) (e : Export)
    → provider tree kernel x ≡ Some (record { owner = ByModule p; export = e })
    → of_first module_exports tree x ≡ Some (record { owner = ByModule p; export = e })
unfolding is_module by-module
from-tree tree kernel x p e =
    go (find (λ e. bytes_eq e.name x) kernel.exports) (of_first module_exports tree x) kernel.known
  where
    found : Provided Module
    found = record { owner = ByModule p; export = e }

    go : (k : Option Export) (f : Option (Provided Module)) (known : Bool)
        → first (option_map (λ e. record { owner = ByKernel; export = e }) k ∷ f
        ∷ cond known None
        (Some (record {
          owner = ByKernel;
          export
              = record { name = x; crc = None; gpl = false; space = [] };
        }))
        ∷ [])
        ≡ Some found
        → f ≡ Some found
    go (Some k) f known is = absurd (true≢false (sym (ap (by-module found) is)))
    go None (Some q) known is = is
    go None None true is = absurd (true≢false (sym (ap (by-module found) is)))
    go None None false is = absurd (true≢false (sym (ap (by-module found) is)))

named-like : Module → Module → Bool
named-like p m = bytes_eq m.face.name p.face.name

-- it stands in the tree
in-tree : (ms : List Module) (x : List ℕ) (p : Module) (e : Export)
    → of_first module_exports ms x ≡ Some (record { owner = ByModule p; export = e })
    → position_or_len (λ m. bytes_eq m.face.name p.face.name) ms < length ms
unfolding module_or
in-tree [] x p e is = absurd (nothing is)
  where
    found : Provided Module
    found = record { owner = ByModule p; export = e }

    nothing : None ≡ Some found → ⊥
    nothing is = cc
in-tree (m ∷ ms) x p e is = go (find (λ e. bytes_eq e.name x) m.face.exports) (in-tree ms x p e) is
  where
    later : (b : Bool) → position_or_len (λ m. bytes_eq m.face.name p.face.name) ms < length ms
        → cond (not b) (1 + position_or_len (λ m. bytes_eq m.face.name p.face.name) ms) 0
        < suc (length ms)
    later true l = omega arith
    later false l = omega (arith, l)

    here : m ≡ p
        → cond (not (bytes_eq m.face.name p.face.name))
        (1 + position_or_len (λ m. bytes_eq m.face.name p.face.name) ms) 0
        < suc (length ms)
    here same
        = subst (λ b. cond (not b) (1 + position_or_len (λ m. bytes_eq m.face.name p.face.name) ms)
        0
        < suc (length ms))
        (sym ((bytes_eq-Decides m.face.name p.face.name).1 (ap (λ m. m.face.name) same)))
        (omega arith)

    go : (o : Option Export)
        → (of_first module_exports ms x ≡ Some (record { owner = ByModule p; export = e })
        → position_or_len (λ m. bytes_eq m.face.name p.face.name) ms < length ms)
        → first (option_map (λ e. record { owner = ByModule m; export = e }) o
        ∷ map (of_one module_exports x) ms)
        ≡ Some (record { owner = ByModule p; export = e })
        → position_or_len (λ m. bytes_eq m.face.name p.face.name) (m ∷ ms) < length (m ∷ ms)
    go None more rest = later (bytes_eq m.face.name p.face.name) (more rest)
    go (Some f) more rest = here (ap (λ o. option_map_or (λ q. module_or m q.owner) o m) rest)

-- If no walk leads back, whatever provides a need of a module, or of a module in its closure, is in
-- its closure.
pub closure-provides : (tree : List Module) (kernel : Kernel) (i j : ℕ) (m p : Module) (e : Export)
    (before after : List Need) (n : Need)
    → cycle (uses_at tree kernel) (below (length tree)) ≡ [] → slice_get tree j ≡ Some m
    → m.face.needs ≡ before ++ n ∷ after
    → provider tree kernel n.name ≡ Some (record { owner = ByModule p; export = e })
    → (j ≡ i) ⊎ (has (closure (uses_at tree kernel) (below (length tree)) i) j ≡ true)
    → has (closure (uses_at tree kernel) (below (length tree)) i) (place tree p) ≡ true
closure-provides tree kernel i j m p e before after n none at is by where_j =
    elim where_j [
      | inl same ↦ closure-first r (length tree) i (place tree p) none
          (ap (λ k. r k (place tree p)) (sym same) ∙ goes) member
      | inr inside ↦ closure-more r (length tree) i j (place tree p) none inside goes member
    ]
  where
    r : Relation
    r = uses_at tree kernel

    goes : uses_at tree kernel j (place tree p) ≡ true
    goes
        = ap (λ o. option_map_or (λ m. has (map (place tree) (uses tree kernel m)) (place tree p)) o
        false) at
        ∙ uses-has tree kernel m p e before after n is by

    member : has (below (length tree)) (place tree p) ≡ true
    member
        = let low
        = in-tree tree n.name p e (from-tree tree kernel n.name p e by) in has-range 0 (length tree)
        (place tree p) (omega arith) (omega (arith, low))

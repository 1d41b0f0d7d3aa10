-- What the lines of a tree say.
use Rattle.std.proofs.Common.{◌≡◌, suc, true, false, List, [], ◌∷◌, ◌++◌, map, filter, Some}
use Rattle.std.proofs.Common.{is_some, refl, sym, subst, ap, append_assoc, append-nil}
use Rattle.std.proofs.Common.{if◌then◌else◌, inl, inr, arith}
use Rattle.std.specs.Prelude.{All}
use Rattle.std.specs.List.{list_any}
use Rattle.symbol_binding.specs.Symbols.{Export, Need, Module, Kernel}
use Rattle.symbol_binding.specs.Provider.{Provided, export_under, of_kernel, of_one, module_exports}
use Rattle.symbol_binding.specs.Provider.{provider}
use Rattle.symbol_binding.specs.Needs.{is_missing, is_hidden, is_other_version, is_barred}
use Rattle.symbol_binding.specs.Unmet.{vmlinux, lines, exporters, doubles_of, doubles, unmet}
use Rattle.symbol_binding.specs.Unmet.{belongs}
use Rattle.symbol_binding.specs.declared.unbound.Unbound.{Unbound}
use Rattle.symbol_binding.specs.declared.unbound.Unbound.TheVariants.{Missing, Gpl, Version}
use Rattle.symbol_binding.specs.declared.unbound.Unbound.TheVariants.{Namespace, Double}
use Rattle.symbol_binding.proofs.Doubles.{doubles_after, doubles-are}
use Rattle.provider_rel.proofs.Laws.{unmet-clear}
use Rattle.laws_closed_plans.specs.Members.{Member}
use Rattle.model_loader.proofs.SoundLemmas.{Passes}
use Rattle.laws_closed_plans.proofs.ListLemmas.{Member-left, Member-right, Member-map}
use Rattle.laws_closed_plans.proofs.ListLemmas.{Member-flat_map, Member-filter, Precedes, split_at}

-- what holds of all holds of a member
pub all-member : {X : Type 0} (P : X → Type 0) (x : X) (xs : List X) → All P xs → Member x xs → P x
all-member P x [] all in' = absurd in'
all-member P x (y ∷ xs) all (inl is) = subst P is (all 0 x (omega arith))
all-member P x (y ∷ xs) all (inr later) =
    all-member P x xs (λ k d less. all (suc k) d (omega (arith, less))) later

-- where no line belongs to a module of the tree, none of its needs has a fault, by what its
-- provider exports
pub faultless : (tree : List Module) (kernel : Kernel) (m : Module) (n : Need)
    → list_any (belongs m.path) (unmet tree kernel) ≡ false → Member m tree → Member n m.face.needs
    → Passes (export_under (provider tree kernel n.name)) m.face n
faultless tree kernel m n none in' needed =
    let s = split_at m tree in' in
    let clear = unmet-clear tree kernel m s.0 s.1 s.2 none in
    record {
      missing
          = all-member
          (λ n. is_missing (export_under (provider tree kernel n.name)) m.face n ≡ false) n
          m.face.needs clear.missing needed;
      hidden
          = all-member
          (λ n. is_hidden (export_under (provider tree kernel n.name)) m.face n ≡ false) n
          m.face.needs clear.hidden needed;
      other_version
          = all-member
          (λ n. is_other_version (export_under (provider tree kernel n.name)) m.face n ≡ false)
          n m.face.needs clear.other_version needed;
      barred
          = all-member
          (λ n. is_barred (export_under (provider tree kernel n.name)) m.face n ≡ false) n
          m.face.needs clear.barred needed;
    }

-- the lines of a module on what stands before it are lines of the list
doubles_after-split : (kernel : Kernel) (earlier front : List Module) (m : Module)
    (back : List Module) (l : Unbound)
    → Member l (doubles_of kernel (earlier ++ front) m)
    → Member l (doubles_after kernel earlier (front ++ m ∷ back))
doubles_after-split kernel earlier [] m back l in' =
    Member-left l (doubles_of kernel earlier m) (doubles_after kernel (earlier ++ m ∷ []) back)
    (rw (sym (append-nil earlier)) in')
doubles_after-split kernel earlier (p ∷ front) m back l in' =
    Member-right l (doubles_of kernel earlier p)
    (doubles_after kernel (earlier ++ p ∷ []) (front ++ m ∷ back))
    (doubles_after-split kernel (earlier ++ p ∷ []) front m back l
    (rw (append_assoc earlier (p ∷ []) front) in'))

unmet-double : (tree : List Module) (kernel : Kernel) (l : Unbound)
    → Member l (doubles_after kernel [] tree) → Member l (unmet tree kernel)
unfolding unmet
unmet-double tree kernel l in' =
    Member-right l
    (lines is_missing (λ m x by. Missing m x) tree kernel ++ lines is_hidden Gpl tree kernel
    ++ lines is_other_version Version tree kernel ++ lines is_barred Namespace tree kernel)
    (doubles kernel tree) (subst (Member l) (sym (doubles-are kernel tree)) in')

-- a name that two modules export has a line
pub double-modules : (tree : List Module) (kernel : Kernel) (p q : Module) (e : Export)
    (v : Provided Module)
    → Precedes p q tree → Member e q.face.exports → of_one module_exports e.name p ≡ Some v
    → Member (Double e.name p.path q.path) (unmet tree kernel)
double-modules tree kernel p q e v order in' gives =
    let l = Double e.name p.path q.path in
    let some : is_some (of_one module_exports e.name p) ≡ true = ap is_some gives in
    let name_in : Member p.path (exporters kernel order.front e.name) =
    Member-right p.path
    (if is_some (of_kernel {M = Module} kernel e.name) then vmlinux ∷ [] else []) _
    (Member-map (λ (m : Module). m.path) p
    (filter (λ p. is_some (of_one module_exports e.name p)) order.front)
    (Member-filter (λ p. is_some (of_one module_exports e.name p)) p order.front order.early
    some)) in
    let own : Member l (doubles_of kernel order.front q) =
    Member-flat_map
    (λ (e : Export). map (λ name. Double e.name name q.path)
    (exporters kernel order.front e.name)) e l q.face.exports in'
    (Member-map (λ name. Double e.name name q.path) p.path (exporters kernel order.front e.name)
    name_in) in
    unmet-double tree kernel l
    (rw (order.split) (doubles_after-split kernel [] order.front q order.back l own))

-- a name that the kernel and a module export has a line
pub double-kernel : (tree : List Module) (kernel : Kernel) (q : Module) (e : Export)
    (v : Provided Module) (front back : List Module)
    → tree ≡ front ++ q ∷ back → Member e q.face.exports
    → of_kernel {M = Module} kernel e.name ≡ Some v
    → Member (Double e.name vmlinux q.path) (unmet tree kernel)
double-kernel tree kernel q e v front back split in' gives =
    let l = Double e.name vmlinux q.path in
    let some : is_some (of_kernel {M = Module} kernel e.name) ≡ true = ap is_some gives in
    let name_in : Member vmlinux (exporters kernel front e.name) = rw some (inl refl) in
    let own : Member l (doubles_of kernel front q) =
    Member-flat_map
    (λ (e : Export). map (λ name. Double e.name name q.path) (exporters kernel front e.name)) e
    l q.face.exports in'
    (Member-map (λ name. Double e.name name q.path) vmlinux (exporters kernel front e.name)
    name_in) in
    unmet-double tree kernel l (rw split (doubles_after-split kernel [] front q back l own))

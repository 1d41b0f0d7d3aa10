-- What modules give under a name.
use Rattle.std.proofs.Common.{◌≡◌, ℕ, true, List, [], ◌∷◌, map, find, Option, Some, None}
use Rattle.std.proofs.Common.{option_map, refl, sym, ap, ◌∙◌, inl, inr, arith}
use Rattle.std.proofs.lemmas.Bool.{true≢false}
use Rattle.std.proofs.lemmas.Option.{none-some, same_Some}
use Rattle.std.proofs.lemmas.Slice.Eq.{bytes_eq-Decides}
use Rattle.std.specs.Str.{bytes_eq}
use Rattle.km_names.specs.First.{first}
use Rattle.laws_closed_plans.specs.Members.{Member}
use Rattle.symbol_binding.specs.Symbols.{Export, Module, Kernel}
use Rattle.symbol_binding.specs.Provider.{Owner, ByKernel, ByModule, Provided, export_under}
use Rattle.symbol_binding.specs.Provider.{provided_by, of_kernel, of_one, of_first, face_exports}
use Rattle.symbol_binding.specs.Provider.{module_exports}
use Rattle.laws_closed_plans.proofs.ListLemmas.{found, none-found}

-- names that are found equal
pub same_name : (x y : List ℕ) → bytes_eq x y ≡ true → x ≡ y
same_name x y is = grind (arith, bytes_eq-Decides x y, is)

pub its_name : (x : List ℕ) → bytes_eq x x ≡ true
its_name x = grind (arith, bytes_eq-Decides x x)

-- what is given is an export of that name
given-export : {M : Type 0} (owner : Owner M) (found_ : Option Export) (v : Provided M)
    → option_map (λ (e : Export). record { owner = owner; export = e }) found_ ≡ Some v
    → found_ ≡ Some v.export
given-export owner None v is = absurd (none-some v is)
given-export owner (Some e) v is = ap Some (ap (λ p. p.export) (same_Some _ _ is))

pub given-member : {M : Type 0} (owner : Owner M) (es : List Export) (x : List ℕ) (v : Provided M)
    → provided_by owner es x ≡ Some v → Member v.export es × (v.export.name ≡ x)
given-member owner es x v is =
    let h
    = found (λ (e : Export). bytes_eq e.name x) v.export es
    (given-export owner (find (λ e. bytes_eq e.name x) es) v is) in
    (h.0, same_name v.export.name x h.1)

-- an exported name is given
pub given-some : {M : Type 0} (owner : Owner M) (es : List Export) (e : Export) → Member e es
    → (v : Provided M) × (provided_by owner es e.name ≡ Some v)
given-some owner es e in' = either owner es e in' (find (λ f. bytes_eq f.name e.name) es) refl
  where
    either : {M : Type 0} (owner : Owner M) (es : List Export) (e : Export) → Member e es
        → (o : Option Export) → find (λ f. bytes_eq f.name e.name) es ≡ o
        → (v : Provided M)
        × (option_map (λ (e : Export). record { owner = owner; export = e }) o ≡ Some v)
    either owner es e in' (Some f) is = (record { owner = owner; export = f }, refl)
    either owner es e in' None is =
        absurd (true≢false
        (sym (its_name e.name) ∙ none-found (λ f. bytes_eq f.name e.name) e es is in'))

-- what is given has this owner
pub given-owner : {M : Type 0} (owner : Owner M) (es : List Export) (x : List ℕ) (v : Provided M)
    → provided_by owner es x ≡ Some v → v.owner ≡ owner
given-owner owner es x v is = of_option owner (find (λ e. bytes_eq e.name x) es) v is
  where
    of_option : {M : Type 0} (owner : Owner M) (o : Option Export) (v : Provided M)
        → option_map (λ (e : Export). record { owner = owner; export = e }) o ≡ Some v
        → v.owner ≡ owner
    of_option owner None v is = absurd (none-some v is)
    of_option owner (Some e) v is = ap (λ p. p.owner) (sym (same_Some _ _ is))

-- owners don't change what is under a name
export-given : {M : Type 0} (owner : Owner M) (es : List Export) (x : List ℕ)
    → export_under (provided_by owner es x) ≡ find (λ e. bytes_eq e.name x) es
export-given owner es x = same owner (find (λ e. bytes_eq e.name x) es)
  where
    same : {M : Type 0} (owner : Owner M) (o : Option Export)
        → export_under (option_map (λ (e : Export). record { owner = owner; export = e }) o) ≡ o
    same owner None = refl
    same owner (Some e) = refl

-- nothing is under a name, by what is exported
pub export-none : {M : Type 0} (o : Option (Provided M)) → export_under o ≡ None → o ≡ None
export-none None none = refl
export-none (Some v) none = absurd (none-some v.export (sym none))

-- what has an export under it is provided
pub export-some : {M : Type 0} (o : Option (Provided M)) (e : Export) → export_under o ≡ Some e
    → (v : Provided M) × (o ≡ Some v) × (v.export ≡ e)
export-some None e is = absurd (none-some e is)
export-some (Some v) e is = (v, refl, same_Some v.export e is)

-- the first of two lists, where heads have the same, and what follows does where they have nothing
pub export-first : {M N : Type 0} (a : Option (Provided M)) (c : Option (Provided N))
    (ts : List (Option (Provided M))) (us : List (Option (Provided N)))
    → export_under a ≡ export_under c
    → (c ≡ None → export_under (first ts) ≡ export_under (first us))
    → export_under (first (a ∷ ts)) ≡ export_under (first (c ∷ us))
export-first None None ts us here later = later refl
export-first None (Some w) ts us here later = absurd (none-some w.export here)
export-first (Some v) None ts us here later = absurd (none-some v.export (sym here))
export-first (Some v) (Some w) ts us here later = here

pub export-kernel : (M N : Type 0) (kernel : Kernel) (x : List ℕ)
    → export_under (of_kernel {M = M} kernel x) ≡ export_under (of_kernel {M = N} kernel x)
export-kernel M N kernel x =
    export-given ByKernel kernel.exports x ∙ sym (export-given ByKernel kernel.exports x)

-- what a machine sees of a module has the same under each name
pub export-face : (m : Module) (x : List ℕ)
    → export_under (of_one face_exports x m.face) ≡ export_under (of_one module_exports x m)
export-face m x =
    export-given (ByModule m.face) m.face.exports x
    ∙ sym (export-given (ByModule m) m.face.exports x)

-- so have lists of them
pub export-faces : (ms : List Module) (x : List ℕ)
    → export_under (of_first face_exports (map (λ (m : Module). m.face) ms) x)
    ≡ export_under (of_first module_exports ms x)
export-faces [] x = refl
export-faces (m ∷ ms) x =
    export-first (of_one face_exports x m.face) (of_one module_exports x m)
    (map (of_one face_exports x) (map (λ (m : Module). m.face) ms))
    (map (of_one module_exports x) ms) (export-face m x) (λ none. export-faces ms x)

-- the first exporter of a list is a member that exports the name
pub of_first-member : {M : Type 0} (exports : M → List Export) (ms : List M) (x : List ℕ)
    (v : Provided M)
    → of_first exports ms x ≡ Some v → (p : M) × Member p ms × (of_one exports x p ≡ Some v)
of_first-member exports [] x v is = absurd (none-some v is)
of_first-member exports (m ∷ ms) x v is =
    either exports m ms x v (of_one exports x m) refl is (of_first-member exports ms x v)
  where
    either : {M : Type 0} (exports : M → List Export) (m : M) (ms : List M) (x : List ℕ)
        (v : Provided M) (o : Option (Provided M))
        → of_one exports x m ≡ o → first (o ∷ map (of_one exports x) ms) ≡ Some v
        → (of_first exports ms x ≡ Some v → (p : M) × Member p ms × (of_one exports x p ≡ Some v))
        → (p : M) × Member p (m ∷ ms) × (of_one exports x p ≡ Some v)
    either exports m ms x v None here is later = let h = later is in (h.0, inr h.1, h.2)
    either exports m ms x v (Some w) here is later = (m, inl refl, here ∙ is)

-- where a member exports the name and no other does, it is the first exporter
pub of_first-only : {M : Type 0} (exports : M → List Export) (ms : List M) (x : List ℕ) (p : M)
    (v : Provided M)
    → Member p ms → of_one exports x p ≡ Some v
    → ((q : M) (w : Provided M) → Member q ms → of_one exports x q ≡ Some w → q ≡ p)
    → of_first exports ms x ≡ Some v
of_first-only exports [] x p v in' gives only = absurd in'
of_first-only exports (m ∷ ms) x p v in' gives only =
    either exports m ms x p v (of_one exports x m) refl in' gives (only m)
    (λ later. of_first-only exports ms x p v later gives (λ q w in''. only q w (inr in'')))
  where
    either : {M : Type 0} (exports : M → List Export) (m : M) (ms : List M) (x : List ℕ) (p : M)
        (v : Provided M) (o : Option (Provided M))
        → of_one exports x m ≡ o → Member p (m ∷ ms) → of_one exports x p ≡ Some v
        → ((w : Provided M) → Member m (m ∷ ms) → of_one exports x m ≡ Some w → m ≡ p)
        → (Member p ms → of_first exports ms x ≡ Some v)
        → first (o ∷ map (of_one exports x) ms) ≡ Some v
    either exports m ms x p v (Some w) here in' gives only later =
        sym here ∙ ap (of_one exports x) (only w (inl refl) here) ∙ gives
    either exports m ms x p v None here (inl is) gives only later =
        absurd (none-some v (sym here ∙ ap (of_one exports x) is ∙ gives))
    either exports m ms x p v None here (inr in') gives only later = later in'

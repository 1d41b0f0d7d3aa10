-- The table of a kernel, an export more at a time.
use Rattle.std.proofs.Common.{◌≡◌, ◌<◌, ◌+◌, ◌∙◌, ℕ, suc, Bool, true, false, List, [], ◌∷◌, ◌++◌}
use Rattle.std.proofs.Common.{Option, Some, None, refl, sym, ap, length, take, drop, map, get_or}
use Rattle.std.proofs.Common.{cond}
use Rattle.std.specs.Prelude.{find, option_map, is_none}
use Rattle.std.specs.Option.{option_or}
use Rattle.std.specs.Str.{bytes_eq}
use Rattle.std.proofs.lemmas.List.{take_more, take-append-drop}
use Rattle.std.proofs.lemmas.List.Folds.{find-append}
use Rattle.std.proofs.Math.Seq.{drop-cons}
use Rattle.kernel_exports.specs.declared.kernel.KernelExport.{KernelExport}
use Rattle.load_fault.specs.declared.fault.MachineFault.TheVariants.{KernelWithoutAddress}
use Rattle.export_table.specs.declared.standing.Standing.{Standing}
use Rattle.export_table.specs.declared.standing.Named.{Named}
use Rattle.export_table.specs.declared.standing.ExportTable.{ExportTable}
use Rattle.export_table.specs.Exports.{export_named, kernel_fault, kernel_placed, standing}
use Rattle.export_table.specs.Standing.{export_pair, named_pair, standing_of}

-- What exports of the kernel keep of a name.
abbrev pub kernel_standing : List KernelExport → List ℕ → Option Standing
kernel_standing es x = option_map (standing None) (export_named x (map kernel_placed es))

standing-more : (es : List KernelExport) (e : KernelExport) (x : List ℕ)
    → kernel_standing (es ++ e ∷ []) x
    ≡ option_or (kernel_standing es x)
    (cond (bytes_eq e.name x) (Some (standing None (kernel_placed e))) None)
standing-more [] e x =
    elim (bytes_eq e.name x) as
    (λ b. option_map (standing None) (cond b (Some (kernel_placed e)) None)
    ≡ cond b (Some (standing None (kernel_placed e))) None) [ true ↦ refl | false ↦ refl ]
standing-more (y ∷ ys) e x =
    elim (bytes_eq y.name x) as
    (λ b. option_map (standing None)
    (cond b (Some (kernel_placed y))
    (export_named x (map kernel_placed (ys ++ e ∷ []))))
    ≡ option_or (option_map (standing None)
    (cond b (Some (kernel_placed y)) (export_named x (map kernel_placed ys))))
    (cond (bytes_eq e.name x) (Some (standing None (kernel_placed e))) None)) [
      | true ↦ refl
      | false ↦ standing-more ys e x
    ]

one_more : (es : List KernelExport) (i : ℕ) (e : KernelExport) → i < length es → e ≡ get_or es i e
    → take (i + 1) es ≡ take i es ++ e ∷ []
one_more es i e inside is = take_more es i e inside ∙ ap (λ y. take i es ++ y ∷ []) (sym is)

-- what the table of a kernel keeps after one more export
pub entered-export : (old next : ExportTable) (e : KernelExport) (n : Named)
    → named_pair n ≡ export_pair None (kernel_placed e)
    → ((x : List ℕ)
    → standing_of next x
    ≡ option_or (standing_of old x)
    (cond (bytes_eq n.name.items x) (Some n.standing) None))
    → (x : List ℕ)
    → standing_of next x
    ≡ option_or (standing_of old x)
    (cond (bytes_eq e.name x) (Some (standing None (kernel_placed e))) None)
entered-export old next e n named entered x =
    entered x
    ∙ ap (λ (p : List ℕ × Standing). option_or (standing_of old x)
    (cond (bytes_eq p.0 x) (Some p.1) None)) named

pub kernel-more : (old next : ExportTable) (es : List KernelExport) (i : ℕ) (e : KernelExport)
    → i < length es → e ≡ get_or es i e
    → ((x : List ℕ) → standing_of old x ≡ kernel_standing (take i es) x)
    → ((x : List ℕ)
    → standing_of next x
    ≡ option_or (standing_of old x)
    (cond (bytes_eq e.name x) (Some (standing None (kernel_placed e))) None))
    → (x : List ℕ) → standing_of next x ≡ kernel_standing (take (i + 1) es) x
kernel-more old next es i e inside is kept entered x =
    entered x
    ∙ ap (λ o. option_or o (cond (bytes_eq e.name x) (Some (standing None (kernel_placed e))) None))
    (kept x)
    ∙ sym (ap (λ ys. kernel_standing ys x) (one_more es i e inside is)
    ∙ standing-more (take i es) e x)

none-append : (p : KernelExport → Bool) (es : List KernelExport) (e : KernelExport)
    → find p es ≡ None → p e ≡ false → find p (es ++ e ∷ []) ≡ None
none-append p es e none other = rw (find-append, none, other) refl

some-append : (p : KernelExport → Bool) (es later : List KernelExport) (e : KernelExport)
    → find p es ≡ None → p e ≡ true → find p (es ++ e ∷ later) ≡ Some e
some-append p es later e none here = rw (find-append, none, here) refl

pub addressed-more : (es : List KernelExport) (i : ℕ) (e : KernelExport) → i < length es
    → e ≡ get_or es i e → is_none e.address ≡ false
    → find (λ (k : KernelExport). is_none k.address) (take i es) ≡ None
    → find (λ (k : KernelExport). is_none k.address) (take (i + 1) es) ≡ None
addressed-more es i e inside is has none =
    ap (find (λ (k : KernelExport). is_none k.address)) (one_more es i e inside is)
    ∙ none-append (λ (k : KernelExport). is_none k.address) (take i es) e none has

pub without-address : (es : List KernelExport) (i : ℕ) (e : KernelExport) → i < length es
    → e ≡ get_or es i e → e.address ≡ None
    → find (λ (k : KernelExport). is_none k.address) (take i es) ≡ None
    → kernel_fault es ≡ Some (KernelWithoutAddress e.name)
without-address es i e inside is lacks none =
    let test : KernelExport → Bool = λ k. is_none k.address in
    let rest : drop i es ≡ e ∷ drop (suc i) es
    = drop-cons es i e inside ∙ ap (λ y. y ∷ drop (suc i) es) (sym is) in
    let split : es ≡ take i es ++ e ∷ drop (suc i) es
    = sym (take-append-drop i es) ∙ ap (λ ys. take i es ++ ys) rest in
    ap (option_map (λ (k : KernelExport). KernelWithoutAddress k.name))
    (ap (find test) split
    ∙ some-append test (take i es) (drop (suc i) es) e none (ap is_none lacks))

-- The lines of what is left.
use Rattle.std.proofs.Common.{◌≡◌, ◌∙◌, ◌<◌, ◌≤◌, ◌+◌, ℕ, List, ◌∷◌, ◌++◌, Some, sym, ap, length}
use Rattle.std.proofs.Common.{drop, append_assoc, append-nil}
use Rattle.std.specs.Prelude.{slice_get, option_map}
use Rattle.std.proofs.lemmas.List.{drop_more, drop_all}
use Rattle.std.proofs.lemmas.Option.{get_or_from_slice_get}
use Rattle.model_loader.specs.declared.entry.Entry.{Entry}
use Rattle.model_loader.specs.declared.entry.LoadedModule.{LoadedModule}
use Rattle.model_loader.specs.Machine.{Machine}
use Rattle.model_loader.proofs.PlaceLemmas.{item}
use Rattle.command_remove.specs.Lines.{left_line, left_lines}

-- ---- what a machine says of an entry

-- what a machine says of the entry at a place
pub loaded-at : (machine : Machine) (i : ℕ) (e : Entry) (loaded : LoadedModule)
    → slice_get machine.entries i ≡ Some e
    → option_map (λ (x : Entry). x.loaded) (slice_get machine.entries i) ≡ Some loaded
    → loaded ≡ e.loaded
loaded-at machine i e loaded at found =
    let here : Some e.loaded ≡ Some loaded
    = sym (ap (option_map (λ (x : Entry). x.loaded)) at) ∙ found in
    cc

pub image-at : (machine : Machine) (i : ℕ) (e : Entry) (image : List ℕ)
    → slice_get machine.entries i ≡ Some e
    → option_map (λ (x : Entry). x.image) (slice_get machine.entries i) ≡ Some image
    → image ≡ e.image
image-at machine i e image at found =
    let here : Some e.image ≡ Some image
    = sym (ap (option_map (λ (x : Entry). x.image)) at) ∙ found in
    cc

-- ---- one line more

pub lines-on : (es : List Entry) (i : ℕ) (e : Entry) (text more line : List ℕ) → i < length es
    → slice_get es i ≡ Some e → line ≡ left_line e → more ≡ text ++ line
    → text ++ left_lines (drop i es) ≡ left_lines es
    → more ++ left_lines (drop (i + 1) es) ≡ left_lines es
lines-on es i e text more line less at is added before =
    let cut : drop i es ≡ e ∷ drop (i + 1) es
    = drop_more es i e less
    ∙ ap (λ x. x ∷ drop (i + 1) es) (get_or_from_slice_get es i e e at) in
    ap (λ t. t ++ left_lines (drop (i + 1) es)) (added ∙ ap (λ l. text ++ l) is)
    ∙ append_assoc text (left_line e) (left_lines (drop (i + 1) es))
    ∙ ap (λ xs. text ++ left_lines xs) (sym cut)
    ∙ before

pub all-lines : (es : List Entry) (i : ℕ) (text : List ℕ) → length es ≤ i
    → text ++ left_lines (drop i es) ≡ left_lines es → text ≡ left_lines es
all-lines es i text past before =
    sym (append-nil text) ∙ ap (λ xs. text ++ left_lines xs) (sym (drop_all i es past)) ∙ before

pub entry-there : (machine : Machine) (i : ℕ) → i < length machine.entries
    → (e : Entry) × (slice_get machine.entries i ≡ Some e)
entry-there machine i less = item machine.entries i less

-- What the parts of an image with its parameters make together.
use Rattle.std.proofs.Common.{◌≡◌, ◌<◌, ◌∙◌, ℕ, List, [], ◌∷◌, Option, Some, None, refl}
use Rattle.std.proofs.Common.{sym, ap, subst, length, map}
use Rattle.std.specs.Prelude.{All}
use Rattle.elf_object.specs.Object.{FileObject}
use Rattle.km_names.specs.First.{first}
use Rattle.param_apply.specs.declared.fault.ParamFault.{ParamFault}
use Rattle.param_apply.specs.declared.table.ParamTable.{ParamTable}
use Rattle.param_apply.specs.Applied.{count_of, finished, named_count, param_fault, piece}
use Rattle.param_apply.specs.Applied.{with_pieces, words_fault}
use Rattle.param_apply.specs.Table.{table_fault, table_of}
use Rattle.param_apply.specs.Words.{Parameter, Setting, parameters, settings}
use Rattle.param_apply.proofs.WordLemmas.{settings-within}

only : (f : Option ParamFault) → first (f ∷ []) ≡ f
only None = refl
only (Some fault) = refl

pub numbers-within : (params : List Parameter) (ss : List Setting) (options : List ℕ)
    → ss ≡ settings params options → All (λ s. s.number < length params) ss
numbers-within params ss options is =
    subst (All (λ (s : Setting). s.number < length params)) (sym is)
    (settings-within params options)

-- What is wrong with the table is wrong with the whole.
pub fault-table : (o : FileObject) (base : ℕ) (image options : List ℕ) (t : ParamTable)
    (fault : ParamFault)
    → t ≡ table_of o → table_fault image base t ≡ Some fault
    → param_fault o base image options ≡ Some fault
unfolding param_fault
fault-table o base image options t fault is failed =
    let here : table_fault image base (table_of o) ≡ Some fault
    = ap (table_fault image base) (sym is) ∙ failed in
    rw here refl

-- Where the table is right, the words decide.
pub fault-words : (o : FileObject) (base : ℕ) (image options : List ℕ) (t : ParamTable)
    (params : List Parameter) (ss : List Setting)
    → t ≡ table_of o → params ≡ parameters o base image → ss ≡ settings params options
    → table_fault image base t ≡ None
    → param_fault o base image options ≡ words_fault o params (length image) ss
unfolding param_fault
fault-words o base image options t params ss is is_p is_s passed =
    let here : table_fault image base (table_of o) ≡ None
    = ap (table_fault image base) (sym is) ∙ passed in
    rw (here, ← is_p, ← is_s) (only (words_fault o params (length image) ss))

pub finished-is : (o : FileObject) (base : ℕ) (image options : List ℕ) (params : List Parameter)
    (ss : List Setting)
    → params ≡ parameters o base image → ss ≡ settings params options
    → finished o base image options ≡ with_pieces image (map (piece params) ss)
unfolding finished
finished-is o base image options params ss is_p is_s = rw (← is_p, ← is_s) refl

pub count-is : (o : FileObject) (base : ℕ) (image options : List ℕ) (params : List Parameter)
    (ss : List Setting)
    → params ≡ parameters o base image → ss ≡ settings params options
    → count_of o base image options ≡ named_count params ss
unfolding count_of
count-is o base image options params ss is_p is_s = rw (← is_p, ← is_s) refl

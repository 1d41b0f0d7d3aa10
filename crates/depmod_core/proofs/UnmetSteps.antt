-- The lines of modules.unmet of a tree have visible words, so that they are read back.
use Rattle.std.proofs.Common.{◌≡◌, refl, sym, ap, subst, ◌∙◌, ℕ, Bool, true, false, ◌&&◌, not, cond}
use Rattle.std.proofs.Common.{List, [], ◌∷◌, ◌++◌, map, flat_map, filter, find, All, Option, Some}
use Rattle.std.proofs.Common.{None, option_map, is_some, Ok}
use Rattle.std.specs.Option.{IfSome}
use Rattle.std.specs.Str.{bytes_eq}
use Rattle.std.proofs.lemmas.List.Elements.{All-nil, All-cons, All-append, All-head, All-tail}
use Rattle.std.proofs.lemmas.List.Elements.{All-map, All-push}
use Rattle.km_names.specs.Ascii.{is_graphic}
use Rattle.km_names.specs.First.{first}
use Rattle.module_facts.specs.declared.facts.Facts.{Facts}
use Rattle.symbol_binding.specs.Symbols.{Export, Need, Face, Module, Kernel}
use Rattle.symbol_binding.specs.Provider.{ByKernel, ByModule, Provided, export_under, of_kernel}
use Rattle.symbol_binding.specs.Provider.{of_first, of_one, of_unknown, module_exports, provider}
use Rattle.symbol_binding.specs.Needs.{NeedTest, is_missing, is_hidden, is_other_version, is_barred}
use Rattle.symbol_binding.specs.Unmet.{vmlinux, owner_path, provider_path, lines_of, lines}
use Rattle.symbol_binding.specs.Unmet.{exporters, doubles_of, doubles, unmet}
use Rattle.symbol_binding.proofs.Doubles.{doubles_after, doubles-are}
use Rattle.symbol_binding.specs.declared.unbound.Unbound.{Unbound}
use Rattle.symbol_binding.specs.declared.unbound.Unbound.TheVariants.{Missing, Gpl, Version}
use Rattle.symbol_binding.specs.declared.unbound.Unbound.TheVariants.{Namespace, Double}
use Rattle.provider_rel.specs.Faces.{module_of, modules_of, export_of_facts, need_of_facts}
use Rattle.provider_rel.specs.Tree.{IsTree, IsTreeModule}
use Rattle.unmet_file.specs.Line.{is_line}
use Rattle.unmet_file.specs.Unmet.{file_text, unmet_of}
use Rattle.unmet_file.proofs.WrittenSteps.{all-back}
use Rattle.index_write.proofs.VisibleWords.{both}

-- a word of visible characters
abbrev Word : List ℕ → Type 0
Word text = is_graphic text ≡ true

-- a module whose path and names are words
record IsWorded (m : Module) : Type 0 where
  path : Word m.path
  exports : All (λ (e : Export). Word e.name) m.face.exports
  needs : All (λ (n : Need). Word n.name) m.face.needs

worded : (f : Facts) → IsTreeModule f → IsWorded (module_of f)
worded f good = record {
  path = good.path;
  exports = All-map (λ (e : Export). Word e.name) export_of_facts f.exports good.exports;
  needs = All-map (λ (n : Need). Word n.name) need_of_facts f.needs good.needs;
}

all-worded : (tree : List Facts) → All IsTreeModule tree → All IsWorded (modules_of tree)
all-worded [] all = All-nil IsWorded
all-worded (f ∷ tree) all =
    All-cons IsWorded (module_of f) (modules_of tree) (worded f (All-head IsTreeModule f tree all))
    (all-worded tree (All-tail IsTreeModule f tree all))

-- all of what some lists have, by what their items are
flat-all : {X Y : Type 0} (Q : X → Type 0) (P : Y → Type 0) (f : X → List Y)
    → ((x : X) → Q x → All P (f x)) → (xs : List X) → All Q xs → All P (flat_map f xs)
flat-all Q P f each [] all = All-nil P
flat-all Q P f each (x ∷ xs) all =
    All-append P (f x) (flat_map f xs) (each x (All-head Q x xs all))
    (flat-all Q P f each xs (All-tail Q x xs all))

-- the same of those that a test finds
found-all : {X Y : Type 0} (Q : X → Type 0) (P : Y → Type 0) (q : X → Bool) (g : X → Y)
    → ((x : X) → Q x → q x ≡ true → P (g x)) → (xs : List X) → All Q xs
    → All P (map g (filter q xs))
found-all Q P q g each [] all = All-nil P
found-all Q P q g each (x ∷ xs) all =
    one (q x) refl (found-all Q P q g each xs (All-tail Q x xs all))
  where
    one : (finds : Bool) → q x ≡ finds → All P (map g (filter q xs))
        → All P (map g (cond finds (x ∷ filter q xs) (filter q xs)))
    one true is rest = All-cons P (g x) (map g (filter q xs)) (each x (All-head Q x xs all) is) rest
    one false is rest = rest

-- who provides is named by a word
abbrev Named : Option (Provided Module) → Type 0
Named found = IfSome found (λ p. Word (owner_path p.owner))

kernel-word : Word vmlinux
unfolding is_graphic
kernel-word = refl

by-kernel : (o : Option Export)
    → Named (option_map (λ e. record { owner = ByKernel; export = e }) o)
by-kernel None = tt
by-kernel (Some e) = kernel-word

by-module : (m : Module) → Word m.path → (o : Option Export)
    → Named (option_map (λ e. record { owner = ByModule m; export = e }) o)
by-module m word None = tt
by-module m word (Some e) = word

by-unknown : (known : Bool) (e : Export)
    → Named (cond known None (Some (record { owner = ByKernel; export = e })))
by-unknown true e = tt
by-unknown false e = kernel-word

first-named : (o : Option (Provided Module)) (rest : List (Option (Provided Module))) → Named o
    → Named (first rest) → Named (first (o ∷ rest))
first-named None rest one others = others
first-named (Some p) rest one others = one

module-named : (tree : List Module) (x : List ℕ) → All IsWorded tree
    → Named (of_first module_exports tree x)
module-named [] x all = tt
module-named (m ∷ tree) x all =
    first-named (of_one module_exports x m) (map (of_one module_exports x) tree)
    (by-module m (All-head IsWorded m tree all).path
    (find (λ e. bytes_eq e.name x) (module_exports m)))
    (module-named tree x (All-tail IsWorded m tree all))

provider-named : (tree : List Module) (kernel : Kernel) (x : List ℕ) → All IsWorded tree
    → Named (provider tree kernel x)
provider-named tree kernel x all =
    let unknown = of_unknown kernel x in
    let modules = of_first module_exports tree x in
    first-named (of_kernel kernel x) (modules ∷ unknown ∷ [])
    (by-kernel (find (λ e. bytes_eq e.name x) kernel.exports))
    (first-named modules (unknown ∷ []) (module-named tree x all)
    (first-named unknown []
    (by-unknown kernel.known (record { name = x; crc = None; gpl = false; space = [] }))
    tt))

-- a need that a test finds, which finds none that nobody provides
abbrev Never : NeedTest → Type 0
Never test = (m : Face) (n : Need) → test None m n ≡ true → ⊥

path-named : (test : NeedTest) → Never test → (found : Option (Provided Module)) → Named found
    → (m : Face) (n : Need) → test (export_under found) m n ≡ true → Word (provider_path found)
path-named test never None named m n is = absurd (never m n is)
path-named test never (Some p) named m n is = named

hidden-never : Never is_hidden
hidden-never m n is = cc (both (not n.weak) false is).1

version-never : Never is_other_version
version-never m n is = cc

barred-never : Never is_barred
barred-never m n is = cc

-- lines of two and of three words
abbrev IsLine : Unbound → Type 0
IsLine line = is_line line ≡ true

yes : (a b : Bool) → a ≡ true → b ≡ true → (a && b) ≡ true
yes a b one other = ap (λ x. x && b) one ∙ other

two-words : (a b : List ℕ) → Word a → Word b → (is_graphic a && (is_graphic b && true)) ≡ true
two-words a b x y = yes (is_graphic a) (is_graphic b && true) x (yes (is_graphic b) true y refl)

three-words : (a b d : List ℕ) → Word a → Word b → Word d
    → (is_graphic a && (is_graphic b && (is_graphic d && true))) ≡ true
three-words a b d x y z =
    yes (is_graphic a) (is_graphic b && (is_graphic d && true)) x (two-words b d y z)

missing-lines : (tree : List Module) (kernel : Kernel) (m : Module) → IsWorded m
    → All IsLine (lines_of is_missing (λ a x by. Missing a x) tree kernel m)
unfolding is_line
missing-lines tree kernel m good =
    found-all (λ (n : Need). Word n.name) IsLine
    (λ n. is_missing (export_under (provider tree kernel n.name)) m.face n)
    (λ n. Missing m.path n.name)
    (λ n word is. two-words m.path n.name good.path word) m.face.needs good.needs

provided-lines : (test : NeedTest) (line : List ℕ → List ℕ → List ℕ → Unbound) → Never test
    → ((a x by : List ℕ) → Word a → Word x → Word by → IsLine (line a x by))
    → (tree : List Module) (kernel : Kernel) → All IsWorded tree → (m : Module) → IsWorded m
    → All IsLine (lines_of test line tree kernel m)
provided-lines test line never stated tree kernel all m good =
    found-all (λ (n : Need). Word n.name) IsLine
    (λ n. test (export_under (provider tree kernel n.name)) m.face n)
    (λ n. line m.path n.name (provider_path (provider tree kernel n.name)))
    (λ n word is. stated m.path n.name (provider_path (provider tree kernel n.name)) good.path word
    (path-named test never (provider tree kernel n.name) (provider-named tree kernel n.name all)
    m.face n is)) m.face.needs good.needs

gpl-line : (a x by : List ℕ) → Word a → Word x → Word by → IsLine (Gpl a x by)
unfolding is_line
gpl-line a x by p q r = three-words a x by p q r

version-line : (a x by : List ℕ) → Word a → Word x → Word by → IsLine (Version a x by)
unfolding is_line
version-line a x by p q r = three-words a x by p q r

namespace-line : (a x by : List ℕ) → Word a → Word x → Word by → IsLine (Namespace a x by)
unfolding is_line
namespace-line a x by p q r = three-words a x by p q r

double-line : (x a b : List ℕ) → Word x → Word a → Word b → IsLine (Double x a b)
unfolding is_line
double-line x a b p q r = three-words x a b p q r

-- the paths of who exports a name
exporters-named : (kernel : Kernel) (earlier : List Module) (x : List ℕ) → All IsWorded earlier
    → All Word (exporters kernel earlier x)
exporters-named kernel earlier x all =
    All-append Word (cond (is_some (of_kernel {M = Module} kernel x)) (vmlinux ∷ []) [])
    (map (λ (p : Module). p.path) (filter (λ p. is_some (of_one module_exports x p)) earlier))
    (kernel-path (is_some (of_kernel {M = Module} kernel x)))
    (found-all IsWorded Word (λ p. is_some (of_one module_exports x p)) (λ (p : Module). p.path)
    (λ p good is. good.path) earlier all)
  where
    kernel-path : (exports : Bool) → All Word (cond exports (vmlinux ∷ []) [])
    kernel-path true = All-cons Word vmlinux [] kernel-word (All-nil Word)
    kernel-path false = All-nil Word

double-lines : (kernel : Kernel) (earlier : List Module) (m : Module) → All IsWorded earlier
    → IsWorded m → All IsLine (doubles_of kernel earlier m)
double-lines kernel earlier m all good =
    flat-all (λ (e : Export). Word e.name) IsLine
    (λ e. map (λ path. Double e.name path m.path) (exporters kernel earlier e.name))
    (λ e word. All-map IsLine (λ path. Double e.name path m.path) (exporters kernel earlier e.name)
    (λ k d inside. double-line e.name _ m.path word
    (exporters-named kernel earlier e.name all k d inside) good.path))
    m.face.exports good.exports

doubles-after : (kernel : Kernel) (earlier ms : List Module) → All IsWorded earlier
    → All IsWorded ms → All IsLine (doubles_after kernel earlier ms)
doubles-after kernel earlier [] before all = All-nil IsLine
doubles-after kernel earlier (m ∷ ms) before all =
    let good = All-head IsWorded m ms all in
    All-append IsLine (doubles_of kernel earlier m) (doubles_after kernel (earlier ++ m ∷ []) ms)
    (double-lines kernel earlier m before good)
    (doubles-after kernel (earlier ++ m ∷ []) ms (All-push IsWorded earlier m before good)
    (All-tail IsWorded m ms all))

-- all lines
unmet-lines : (tree : List Module) (kernel : Kernel) → All IsWorded tree
    → All IsLine (unmet tree kernel)
unfolding unmet
unmet-lines tree kernel all =
    let missing = lines is_missing (λ m x by. Missing m x) tree kernel in
    let gpl = lines is_hidden Gpl tree kernel in
    let version = lines is_other_version Version tree kernel in
    let namespace = lines is_barred Namespace tree kernel in
    let provided
    = λ (test : NeedTest) (line : List ℕ → List ℕ → List ℕ → Unbound) (never : Never test)
    (stated : (a x by : List ℕ) → Word a → Word x → Word by → IsLine (line a x by)).
    flat-all IsWorded IsLine (lines_of test line tree kernel)
    (provided-lines test line never stated tree kernel all) tree all in
    All-append IsLine (((missing ++ gpl) ++ version) ++ namespace) (doubles kernel tree)
    (All-append IsLine ((missing ++ gpl) ++ version) namespace
    (All-append IsLine (missing ++ gpl) version
    (All-append IsLine missing gpl
    (flat-all IsWorded IsLine (lines_of is_missing (λ m x by. Missing m x) tree kernel)
    (missing-lines tree kernel) tree all)
    (provided is_hidden Gpl hidden-never gpl-line))
    (provided is_other_version Version version-never version-line))
    (provided is_barred Namespace barred-never namespace-line))
    (subst (All IsLine) (sym (doubles-are kernel tree))
    (doubles-after kernel [] tree (All-nil IsWorded) all))

-- what is written of a tree is read back
pub unmet-back : (tree : List Facts) (kernel : Kernel) → IsTree tree → (path : List ℕ)
    → unmet_of path (file_text (unmet (modules_of tree) kernel))
    ≡ Ok (unmet (modules_of tree) kernel)
unmet-back tree kernel good path =
    all-back path (unmet (modules_of tree) kernel)
    (unmet-lines (modules_of tree) kernel (all-worded tree good.modules))

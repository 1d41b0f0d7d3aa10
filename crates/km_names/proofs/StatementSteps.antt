-- One file more of configuration files.
use Rattle.std.proofs.Common.{◌≡◌, ℕ, ◌+◌, ◌<◌, ◌≤◌, List, [], ◌∷◌, ◌++◌, length, drop, get_or}
use Rattle.std.proofs.Common.{Option, Some, None, option_map, Ok, sym, refl, ap, ◌∙◌, inl, inr, ◌⊎◌}
use Rattle.std.specs.List.{flat_map}
use Rattle.std.specs.Result.{result_err}
use Rattle.std.proofs.lemmas.List.{at_drop_more, at_drop_all, append_assoc, append-nil}
use Rattle.km_names.specs.First.{first}
use Rattle.km_names.specs.declared.conf.ConfFile.{ConfFile}
use Rattle.km_names.specs.declared.conf.ConfFault.{ConfFault}
use Rattle.km_names.specs.declared.conf.ConfFault.TheVariants.{Memory}
use Rattle.km_names.specs.Statements.{LinePlace, line_fault, bad_places, file_statements, bad_line}
use Rattle.km_names.specs.Statements.{stated, unless_fault, parsed}

first-append-none : {F : Type 0} (xs ys : List (Option F)) → first xs ≡ None
    → first (xs ++ ys) ≡ first ys
first-append-none [] ys e = refl
first-append-none (None ∷ xs) ys e = first-append-none xs ys e
first-append-none (Some fault ∷ xs) ys e = cc

first-append-some : {F : Type 0} (xs ys : List (Option F)) (fault : F) → first xs ≡ Some fault
    → first (xs ++ ys) ≡ Some fault
first-append-some [] ys fault e = cc
first-append-some (None ∷ xs) ys fault e = first-append-some xs ys fault e
first-append-some (Some found ∷ xs) ys fault e = e

-- the refusal of what is stated unless there is a fault
pub refusal_of : {X F : Type 0} (o : Option F) (x : X) → result_err (unless_fault o x) ≡ o
refusal_of None x = refl
refusal_of (Some fault) x = refl

-- the fault of a place that is another's too
same-fault : (place other : Option LinePlace) (fault : ConfFault)
    → ((p : LinePlace) → place ≡ Some p → other ≡ Some p) → option_map line_fault place ≡ Some fault
    → option_map line_fault other ≡ Some fault
same-fault None other fault too is = cc
same-fault (Some p) other fault too is = ap (option_map line_fault) (too p refl) ∙ is

module _ {X : Type 0} (read : List ℕ → Option X) where
  pub bad-more : (files : List ConfFile) (i : ℕ) (file : ConfFile) → i < length files
      → file ≡ get_or files i file → first (bad_places read file) ≡ None
      → bad_line read (drop (i + 1) files) ≡ bad_line read (drop i files)
  unfolding bad_line
  bad-more files i file l is none =
      sym (at_drop_more (bad_line read) files i file l
      ∙ ap (λ f. bad_line read (f ∷ drop (i + 1) files)) (sym is)
      ∙ first-append-none (bad_places read file)
      (flat_map (bad_places read) (drop (i + 1) files)) none)

  pub bad-found : (files : List ConfFile) (i : ℕ) (file : ConfFile) (place : LinePlace)
      → i < length files → file ≡ get_or files i file → first (bad_places read file) ≡ Some place
      → bad_line read (drop i files) ≡ Some place
  unfolding bad_line
  bad-found files i file place l is some =
      at_drop_more (bad_line read) files i file l
      ∙ ap (λ f. bad_line read (f ∷ drop (i + 1) files)) (sym is)
      ∙ first-append-some (bad_places read file)
      (flat_map (bad_places read) (drop (i + 1) files)) place some

  pub stated-more : (done : List X) (files : List ConfFile) (i : ℕ) (file : ConfFile)
      → i < length files → file ≡ get_or files i file
      → (done ++ file_statements read file) ++ stated read (drop (i + 1) files)
      ≡ done ++ stated read (drop i files)
  unfolding stated
  stated-more done files i file l is =
      append_assoc done (file_statements read file) (stated read (drop (i + 1) files))
      ∙ sym (ap (λ xs. done ++ xs)
      (at_drop_more (stated read) files i file l
      ∙ ap (λ f. stated read (f ∷ drop (i + 1) files)) (sym is)))

  pub parsed-all : (done : List X) (items files : List ConfFile) (i : ℕ) → length items ≤ i
      → bad_line read (drop i items) ≡ bad_line read files
      → done ++ stated read (drop i items) ≡ stated read files → parsed read files ≡ Ok done
  unfolding bad_line stated parsed
  parsed-all done items files i l bad all =
      let none : bad_line read files ≡ None = sym bad ∙ at_drop_all (bad_line read) items i l in
      let some : stated read files ≡ done
      = sym all ∙ ap (λ xs. done ++ xs) (at_drop_all (stated read) items i l)
      ∙ append-nil done in
      ap (λ b. unless_fault b (stated read files)) none ∙ ap Ok some

  -- what a refusal in a file says of the files
  pub refused : (items files : List ConfFile) (i : ℕ) (file : ConfFile) (fault : ConfFault)
      → i < length items → file ≡ get_or items i file
      → bad_line read (drop i items) ≡ bad_line read files
      → ((fault ≡ Memory) ⊎ (option_map line_fault (first (bad_places read file)) ≡ Some fault))
      → ((fault ≡ Memory) ⊎ (option_map line_fault (result_err (parsed read files)) ≡ Some fault))
  unfolding parsed
  refused items files i file fault l is bad (inl memory) = inl memory
  refused items files i file fault l is bad (inr found) =
      inr (ap (option_map line_fault) (refusal_of (bad_line read files) (stated read files))
      ∙ same-fault (first (bad_places read file)) (bad_line read files) fault
      (λ place some. sym bad ∙ bad-found items i file place l is some) found)

-- The files one after the other.
use Rattle.std.proofs.Common.{◌≡◌, refl, sym, ap, subst, ◌∙◌, inl, inr, ℕ, ◌+◌, ◌<◌, List, []}
use Rattle.std.proofs.Common.{◌∷◌, ◌++◌, length, map, take, drop, get_or, Option, Some, None}
use Rattle.std.proofs.Common.{Ok, Err}
use Rattle.std.specs.Prelude.{Result, IfOk, IfErr, OnOk}
use Rattle.std.proofs.lemmas.List.{take_more, drop_more, map-append, take-append-drop}
use Rattle.std.proofs.lemmas.List.Sums.{fold-append}
use Rattle.std.proofs.lemmas.List.Elements.{All-nil, All-push}
use Rattle.km_names.specs.First.{first}
use Rattle.index_format.specs.Map.{KeyValues}
use Rattle.index_format.specs.File.{file as index_file}
use Rattle.index_format.specs.Holds.{Holds}
use Rattle.depmod_core.specs.declared.file.OutputFile.{OutputFile}
use Rattle.depmod_core.specs.declared.file.OutputFile.TheVariants.{Dep, DepBin, Alias, AliasBin}
use Rattle.depmod_core.specs.declared.file.OutputFile.TheVariants.{Softdep, Symbols, SymbolsBin}
use Rattle.depmod_core.specs.declared.file.OutputFile.TheVariants.{BuiltinBin, Unmet}
use Rattle.depmod_core.specs.declared.fault.OutputFault.{OutputFault}
use Rattle.depmod_core.specs.declared.files.OutputFiles.{OutputFiles}
use Rattle.depmod_core.specs.declared.making.Making.{Making}
use Rattle.depmod_core.specs.Files.{files_by, output_fault, size_fault}
use Rattle.depmod_core.specs.Making.{IsFaultBy, IsMade, AreMade, Stands, first_fault, made_bytes}
use Rattle.depmod_core.specs.Making.{made_files, map_in, text_in, with_content}

-- the bytes of an index, by its map
map-is : {a b : KeyValues} → Some a ≡ Some b → a ≡ b
map-is e = cc

index-bytes : (m : Making) (file : OutputFile) (all : KeyValues) → Some all ≡ map_in m file
    → made_bytes m file ≡ index_file all
unfolding files_by
index-bytes m Dep all is = cc
index-bytes m DepBin all is = ap index_file (sym (map-is is))
index-bytes m Alias all is = cc
index-bytes m AliasBin all is = ap index_file (sym (map-is is))
index-bytes m Softdep all is = cc
index-bytes m Symbols all is = cc
index-bytes m SymbolsBin all is = ap index_file (sym (map-is is))
index-bytes m BuiltinBin all is = ap index_file (sym (map-is is))
index-bytes m Unmet all is = cc

index-stands : (m : Making) (file : OutputFile) (all : KeyValues) (bytes : List ℕ)
    → Some all ≡ map_in m file → Holds bytes all → Stands m file bytes
index-stands m Dep all bytes is holds = tt
index-stands m DepBin all bytes is holds = subst (Holds bytes) (map-is is) holds
index-stands m Alias all bytes is holds = tt
index-stands m AliasBin all bytes is holds = subst (Holds bytes) (map-is is) holds
index-stands m Softdep all bytes is holds = tt
index-stands m Symbols all bytes is holds = tt
index-stands m SymbolsBin all bytes is holds = subst (Holds bytes) (map-is is) holds
index-stands m BuiltinBin all bytes is holds = subst (Holds bytes) (map-is is) holds
index-stands m Unmet all bytes is holds = tt

pub index-made : (m : Making) (file : OutputFile) (all : KeyValues)
    (r : Result (List ℕ) OutputFault)
    → Some all ≡ map_in m file → IfOk r (λ bytes. bytes ≡ index_file all)
    → IfOk r (λ bytes. Holds bytes all) → OnOk r (size_fault file (index_file all) ≡ None)
    → IfOk r (λ bytes. IsMade m file bytes)
index-made m file all (Err e) is same holds passed = tt
index-made m file all (Ok bytes) is same holds passed =
    let by = index-bytes m file all is in
    record {
      same = same ∙ sym by;
      passed = ap (size_fault file) by ∙ passed;
      stands
          = index-stands m file all (made_bytes m file) is
          (subst (λ b. Holds b all) (same ∙ sym by) holds);
    }

pub index-fault : (m : Making) (file : OutputFile) (all : KeyValues)
    (r : Result (List ℕ) OutputFault)
    → Some all ≡ map_in m file → IfErr r (λ e. IsFaultBy (size_fault file (index_file all)) e)
    → IfErr r (λ e. IsFaultBy (size_fault file (made_bytes m file)) e)
index-fault m file all r is =
    subst (λ bytes. IfErr r (λ e. IsFaultBy (size_fault file bytes) e))
    (sym (index-bytes m file all is))

-- the bytes of a text
none-some : {a : KeyValues} → None ≡ Some a → ⊥
none-some e = cc

text-bytes : (m : Making) (file : OutputFile) → None ≡ map_in m file
    → made_bytes m file ≡ text_in m file
unfolding files_by
text-bytes m Dep is = refl
text-bytes m DepBin is = absurd (none-some is)
text-bytes m Alias is = refl
text-bytes m AliasBin is = absurd (none-some is)
text-bytes m Softdep is = refl
text-bytes m Symbols is = refl
text-bytes m SymbolsBin is = absurd (none-some is)
text-bytes m BuiltinBin is = absurd (none-some is)
text-bytes m Unmet is = refl

text-stands : (m : Making) (file : OutputFile) (bytes : List ℕ) → None ≡ map_in m file
    → Stands m file bytes
text-stands m Dep bytes is = tt
text-stands m DepBin bytes is = absurd (none-some is)
text-stands m Alias bytes is = tt
text-stands m AliasBin bytes is = absurd (none-some is)
text-stands m Softdep bytes is = tt
text-stands m Symbols bytes is = tt
text-stands m SymbolsBin bytes is = absurd (none-some is)
text-stands m BuiltinBin bytes is = absurd (none-some is)
text-stands m Unmet bytes is = tt

pub text-made : (m : Making) (file : OutputFile) (r : Result (List ℕ) OutputFault)
    → None ≡ map_in m file → IfOk r (λ bytes. bytes ≡ text_in m file)
    → OnOk r (size_fault file (text_in m file) ≡ None) → IfOk r (λ bytes. IsMade m file bytes)
text-made m file (Err e) is same passed = tt
text-made m file (Ok bytes) is same passed =
    let by = text-bytes m file is in
    record {
      same = same ∙ sym by;
      passed = ap (size_fault file) by ∙ passed;
      stands = text-stands m file (made_bytes m file) is;
    }

pub text-fault : (m : Making) (file : OutputFile) (r : Result (List ℕ) OutputFault)
    → None ≡ map_in m file → IfErr r (λ e. IsFaultBy (size_fault file (text_in m file)) e)
    → IfErr r (λ e. IsFaultBy (size_fault file (made_bytes m file)) e)
text-fault m file r is =
    subst (λ bytes. IfErr r (λ e. IsFaultBy (size_fault file bytes) e)) (sym (text-bytes m file is))

-- the tests that come after those that pass
first-later : {F : Type 0} (xs ys : List (Option F)) → first xs ≡ None
    → first (xs ++ ys) ≡ first ys
first-later [] ys none = refl
first-later (None ∷ xs) ys none = first-later xs ys none
first-later (Some fault ∷ xs) ys none = cc

-- no file is made yet
pub none-made : (m : Making) (start : OutputFiles) → AreMade m start start []
none-made m start = record {
  same = refl;
  passed = refl;
  stand = All-nil (λ (f : OutputFile). Stands m f (made_bytes m f));
}

-- one file more
pub made-next : (m : Making) (start made next : OutputFiles) (which : List OutputFile) (i : ℕ)
    (d : OutputFile) (bytes : List ℕ)
    → i < length which → AreMade m start made (take i which) → IsMade m (get_or which i d) bytes
    → next ≡ with_content made (get_or which i d) bytes → AreMade m start next (take (i + 1) which)
made-next m start made next which i d bytes inside before one after =
    let file = get_or which i d in
    let earlier = take i which in
    let put = λ (fs : OutputFiles) (f : OutputFile). with_content fs f (made_bytes m f) in
    let test = λ (f : OutputFile). size_fault f (made_bytes m f) in
    let all : AreMade m start next (earlier ++ file ∷ []) = record {
      same
          = after ∙ ap (with_content made file) one.same ∙ ap (λ fs. put fs file) before.same
          ∙ sym (fold-append put start earlier (file ∷ []));
      passed
          = ap first (map-append test earlier (file ∷ []))
          ∙ first-later (map test earlier) (test file ∷ []) before.passed
          ∙ ap (λ o. first (o ∷ [])) one.passed;
      stand
          = All-push (λ (f : OutputFile). Stands m f (made_bytes m f)) earlier file before.stand
          one.stands;
    } in
    subst (AreMade m start next) (sym (take_more which i d inside)) all

-- a file is too large
pub fault-found : (m : Making) (start made : OutputFiles) (which : List OutputFile) (i : ℕ)
    (d : OutputFile) (fault : OutputFault)
    → i < length which → AreMade m start made (take i which)
    → IsFaultBy (size_fault (get_or which i d) (made_bytes m (get_or which i d))) fault
    → IsFaultBy (first_fault m which) fault
fault-found m start made which i d fault inside before (inl memory) = inl memory
fault-found m start made which i d fault inside before (inr found) =
    let file = get_or which i d in
    let earlier = take i which in
    let later = drop (i + 1) which in
    let test = λ (f : OutputFile). size_fault f (made_bytes m f) in
    let parts : which ≡ earlier ++ file ∷ later
    = sym (take-append-drop i which) ∙ ap (λ fs. earlier ++ fs) (drop_more which i d inside) in
    inr (ap (λ fs. first (map test fs)) parts
    ∙ ap first (map-append test earlier (file ∷ later))
    ∙ first-later (map test earlier) (test file ∷ map test later) before.passed
    ∙ ap (λ o. first (o ∷ map test later)) found)

-- All files, in their order.
abbrev pub each_file : List OutputFile
each_file =
    Dep ∷ DepBin ∷ Alias ∷ AliasBin ∷ Softdep ∷ Symbols ∷ SymbolsBin ∷ BuiltinBin ∷ Unmet ∷ []

pub all-bytes : {m : Making} {start made : OutputFiles} → AreMade m start made each_file
    → made ≡ made_files m
all-bytes are = are.same

pub all-passed : {m : Making} {start made : OutputFiles} → AreMade m start made each_file
    → output_fault (made_files m) ≡ None
unfolding output_fault
all-passed are = are.passed

-- Requests, by the options that go with their mode.
use Rattle.std.proofs.Common.{◌≡◌, ◌∙◌, Bool, true, false, ℕ, List, Option, Some, T, ap, sym, subst}
use Rattle.std.proofs.Math.Dec.{T_prop}
use Rattle.kmod_words.specs.Modes.{goes_with}
use Rattle.kmod_words.specs.Modprobe.{if_passed}
use Rattle.kmod_words.specs.declared.modprobe.Mode.{Mode}

-- what a test makes that passes
pub passed : {X : Type 0} (test : Bool) (make : T test → X) (x : X) → test ≡ true
    → ((passes : T test) → x ≡ make passes) → Some x ≡ if_passed test make
passed true make x is made = ap Some (made tt)
passed false make x is made = cc

module _ (mode : Mode) (map map' image image' : Option (List ℕ)) (params params' : Bool)
    (same-map : map ≡ map') (same-image : image ≡ image') (same-params : params ≡ params') where
  same : goes_with mode map image params ≡ goes_with mode map' image' params'
  same =
      ap (λ m. goes_with mode m image params) same-map
      ∙ ap (λ i. goes_with mode map' i params) same-image
      ∙ ap (goes_with mode map' image') same-params

  -- options go with a mode as the same options do
  pub fits-as : T (goes_with mode map' image' params') → T (goes_with mode map image params)
  fits-as fits = subst T (sym same) fits

  -- what is made of them is made of the options alone
  pub made-of : {X : Type 0}
      (make : (m i : Option (List ℕ)) (p : Bool) → T (goes_with mode m i p) → X)
      → (fits : T (goes_with mode map image params))
      (fits' : T (goes_with mode map' image' params'))
      → make map image params fits ≡ make map' image' params' fits'
  made-of make fits =
      subst (λ (m : Option (List ℕ)). (fits' : T (goes_with mode m image' params'))
      → make map image params fits ≡ make m image' params' fits') same-map
      (subst (λ (i : Option (List ℕ)). (fits' : T (goes_with mode map i params'))
      → make map image params fits ≡ make map i params' fits') same-image
      (subst (λ (p : Bool). (fits' : T (goes_with mode map image p))
      → make map image params fits ≡ make map image p fits') same-params
      (λ fits'. ap (make map image params) (T_prop (goes_with mode map image params) fits fits'))))

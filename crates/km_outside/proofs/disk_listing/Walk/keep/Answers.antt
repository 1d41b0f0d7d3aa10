use Rattle.std.proofs.Common.{◌≡◌, All, true, sym, ap, subst, ◌∙◌, arith}
use Rattle.std.proofs.lemmas.List.Elements.{All-push}
use Rattle.outside_calls.specs.Listing.{test_of}
use Rattle.km_outside.proofs.disk_listing.Walk.keep.Goals as goal

pub returns-in_ok-push-in-File-clause-sound : goal.returns-in_ok-push-in-File-clause-sound
returns-in_ok-push-in-File-clause-sound c =
    let listing = c.args.self.now.listing in
    let is : test_of listing c.into_bytes.result.items ≡ true =
    ap (test_of listing) (ap (λ v. v.items) c.into_bytes.ensures.value) ∙ c.requires.fits in
    record {
      found = omega (arith, c.requires.room, c.in_ok-push-in-File.ensures.len);
      met = c.requires.sound.met;
      fits
          = subst (All (λ path. test_of listing path.items ≡ true))
          (sym c.in_ok-push-in-File.ensures.items)
          (All-push (λ path. test_of listing path.items ≡ true) _ _ c.requires.sound.fits is);
    }

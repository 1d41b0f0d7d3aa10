use Rattle.outside_calls.specs.Listing.{test_of}
use Rattle.km_outside.proofs.disk_listing.list_folder.Goals as goal

pub returns-clause-fits : goal.returns-clause-fits
returns-clause-fits g c =
    c.rising_list.ensures.kept (test_of c.args.listing) c.in_ok-found.ensures.fits

use Rattle.std.proofs.Common.{◌∙◌, Bool, ℕ, List, Option, T, codes}
use Rattle.clap.specs.Words.{found_of, rows_of}
use Rattle.module_region.proofs.RegionLemmas.{IsRegion-prop}
use Rattle.kmod_words.specs.Modes.{goes_with}
use Rattle.kmod_words.specs.Understood.{is_given, value_of}
use Rattle.kmod_words.specs.declared.modprobe.ModprobeWords.{ModprobeWords}
use Rattle.kmod_words.proofs.WordsLemmas.{fits-as, made-of}
use Rattle.kmod_words.proofs.modprobe_request.words_for.Goals as goal

pub invariant_of-result : goal.invariant_of-result
invariant_of-result c =
    let load = c.in_ok-load.ensures in
    record {
      pages = c.args.choice.now.region.pages;
      fits
          = fits-as c.args.choice.now.mode _ _ _ _ _ _ load.system_map load.image
          c.is_given-4.ensures c.requires.fits;
    }

pub returns : goal.returns
returns c = λ fits.
    let mode = c.args.choice.now.mode in
    let region = c.args.choice.now.region in
    let version = c.in_ok-version.ensures ∙ c.as_bytes.ensures.value in
    let load = c.in_ok-load.ensures in
    let make : (m i : Option (List ℕ)) (p : Bool) → T (goes_with mode m i p) → ModprobeWords
    = λ m i p f. record {
      mode = mode;
      all = c.is_given.result;
      use_blacklist = c.is_given-2.result;
      ignore_install = c.is_given-3.result;
      dirname = c.in_ok-plan.plan.dirname;
      version = c.in_ok-version.version;
      config = c.in_ok-plan.plan.config;
      loaded = c.in_ok-plan.plan.loaded;
      system_map = m;
      symvers = c.in_ok-load.load.symvers;
      region_base = region.base;
      region_size = region.size;
      image = i;
      params = p;
      words = c.in_ok-words.words;
      pages = c.result-2-1.given.0;
      fits = f;
    } in
    made-of mode _ _ _ _ _ _ load.system_map load.image c.is_given-4.ensures make
    c.result-2-1.given.1.0 fits
    ∙ (λ i. record {
      mode = mode;
      all = c.is_given.ensures i;
      use_blacklist = c.is_given-2.ensures i;
      ignore_install = c.is_given-3.ensures i;
      dirname = c.in_ok-plan.ensures.dirname i;
      version = version i;
      config = c.in_ok-plan.ensures.config i;
      loaded = c.in_ok-plan.ensures.loaded i;
      system_map = value_of (codes "system-map") (rows_of (found_of c.args.matches.now));
      symvers = load.symvers i;
      region_base = region.base;
      region_size = region.size;
      image = value_of (codes "image") (rows_of (found_of c.args.matches.now));
      params = is_given (codes "params") (rows_of (found_of c.args.matches.now));
      words = c.in_ok-words.ensures i;
      pages = IsRegion-prop region.base region.size c.result-2-1.given.0 region.pages i;
      fits = fits;
    })

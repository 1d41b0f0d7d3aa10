use Rattle.std.proofs.Common.{ap, ◌∙◌, codes}
use Rattle.std.specs.Prelude.{unwrap_or}
use Rattle.clap.specs.Words.{found_of, rows_of}
use Rattle.kmod_words.specs.Understood.{value_of}
use Rattle.kmod_words.proofs.depmod.words_for.Goals as goal

pub returns : goal.returns
returns c =
    let rows = rows_of (found_of c.args.matches.now) in
    let version = c.in_ok-version.ensures ∙ c.as_bytes.ensures.value in
    let basedir = c.in_ok-basedir.ensures in
    let outdir
    = c.in_ok-outdir.ensures
    ∙ ap (unwrap_or (value_of (codes "outdir") rows)) (c.as_bytes-2.ensures ∙ basedir) in
    λ i. record {
      dry_run = c.is_given.ensures i;
      errsyms = c.is_given-2.ensures i;
      extra = c.is_given-3.ensures i;
      basedir = basedir i;
      outdir = outdir i;
      config = c.in_ok-config.ensures i;
      filesyms = c.in_ok-filesyms.ensures i;
      symvers = c.in_ok-symvers.ensures i;
      version = version i;
    }

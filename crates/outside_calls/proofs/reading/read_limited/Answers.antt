use Rattle.std.proofs.Common.{rules, ◌≡◌, ◌+◌, ◌≤◌, length, vec_len, take, ap, subst, inl, inr, ◌∙◌}
use Rattle.std.proofs.Common.{arith, add-zero}
use Rattle.std.proofs.lemmas.List.{length-take-le, places}
use Rattle.std.specs.Io.KnownBytes.{Consumes}
use Rattle.km_names.specs.Limit.{file_limit}
use Rattle.outside_calls.proofs.ReadingLemmas.{read_added, read_whole}
use Rattle.outside_calls.proofs.reading.read_limited.Goals as goal

pub loop-filled-preserved : goal.loop-filled-preserved
loop-filled-preserved g c =
    let read = c.in_ok-count.ensures in (
      read.fits,
      read.limit,
      read_added _ _ _ c.loop-filled.buffer.items c.read_more.new.buffer.items
          c.loop-filled.filled c.in_ok-count.count c.loop-filled.invariant.2 read.front
          read.bytes,
    )

pub returns-after-loop-filled-clause-bytes : goal.returns-after-loop-filled-clause-bytes
returns-after-loop-filled-clause-bytes g c =
    let filled = c.loop-filled.filled in
    let bytes = take filled c.loop-filled.buffer.items in
    let held : length c.loop-filled.buffer.items ≡ vec_len c.loop-filled.buffer
    = search (rules, places) in
    let len : length bytes ≡ filled
    = length-take-le filled c.loop-filled.buffer.items
    (omega (arith, held, c.loop-filled.invariant.0)) in
    let full : length bytes ≡ file_limit + 1
    = omega (
      arith,
      len,
      c.loop-filled-test.false,
      c.loop-filled.invariant.0,
      c.loop-filled.invariant.1,
    ) in
    read_whole _ _ bytes (file_limit + 1) c.loop-filled.invariant.2 (omega (arith, full)) (inl full)

pub returns-in-0-clause-bytes : goal.returns-in-0-clause-bytes
returns-in-0-clause-bytes g c =
    let filled = c.loop-filled.filled in
    let items = c.read_more.new.buffer.items in
    let read = c.in_ok-count.ensures in
    let added : take (filled + c.in_ok-count.count) items ≡ take filled items =
    ap (λ n. take (filled + n) items) c.in-0.is ∙ ap (λ n. take n items) (add-zero filled) in
    let consumed
    = subst (Consumes _ _) added
    (read_added _ _ _ c.loop-filled.buffer.items items filled c.in_ok-count.count
    c.loop-filled.invariant.2 read.front read.bytes) in
    let fits : filled ≤ vec_len c.read_more.new.buffer = omega (arith, read.fits) in
    let held : length items ≡ vec_len c.read_more.new.buffer = search (rules, places) in
    let len : length (take filled items) ≡ filled
    = length-take-le filled items (omega (arith, held, fits)) in
    read_whole _ _ (take filled items) (file_limit + 1) consumed
    (omega (arith, len, fits, read.limit)) (inr (read.end c.in-0.is))

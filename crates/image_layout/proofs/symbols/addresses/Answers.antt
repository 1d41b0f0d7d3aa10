use Rattle.std.proofs.Common.{◌≡◌, ◌∙◌, ◌++◌, ◌∷◌, [], length, ap, sym, arith, map}
use Rattle.std.specs.List.{range_with_len}
use Rattle.std.proofs.lemmas.List.FromFn.{map-range_with_len_more}
use Rattle.image_layout.specs.Symbols.{address, addresses}
use Rattle.image_layout.proofs.SymbolLemmas.{address-is}
use Rattle.image_layout.proofs.symbols.addresses.Goals as goal

pub loop-i-preserved : goal.loop-i-preserved
loop-i-preserved c =
    let f = address c.args.object.now c.args.base c.args.given.now in
    let done = map f (range_with_len 0 c.loop-i.i) in
    let is
    = address-is c.args.object.now c.args.base c.args.given.now c.loop-i.i c.symbol.result.now
    c.symbol.ensures.symbol in
    let more = map-range_with_len_more f 0 c.loop-i.i c.loop-i.i (omega arith) in
    c.in_ok-push.ensures.items ∙ ap (λ vs. vs ++ c.symbol_address.result ∷ []) c.loop-i.invariant
    ∙ ap (λ at. done ++ at ∷ []) (c.symbol_address.ensures ∙ sym is) ∙ sym more

pub returns : goal.returns
unfolding addresses
returns c =
    let all : c.loop-i.i ≡ length c.args.object.now.symbols = omega arith in
    c.loop-i.invariant
    ∙ ap
    (λ n. map (address c.args.object.now c.args.base c.args.given.now) (range_with_len 0 n))
    all

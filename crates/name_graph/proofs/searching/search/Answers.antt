use Rattle.std.proofs.Common.{rules, arith, ◌≡◌, ◌<◌, [], length, subst, replicate, false}
use Rattle.std.proofs.lemmas.Grind.{common_steps}
use Rattle.name_graph.specs.Search.{IsSearch, Adds}
use Rattle.name_graph.proofs.GraphLemmas.{row_is, row_within}
use Rattle.name_graph.proofs.SearchLemmas.{search_begin, search_more, search_end, waits_within}
use Rattle.name_graph.proofs.searching.search.Goals as goal

pub loop-place-init : goal.loop-place-init
loop-place-init c =
    let row = row_is c.args.graph.now c.args.start _ _ c.requires.inside c.index-graph-start.is c.as_slice.ensures in
    let marks = c.note_uses.new.seen in
    let waits = c.note_uses.new.rest.items in
    let shown = c.as_slice.result.now in
    search_begin c.args.graph.now c.args.start (length c.args.graph.now) marks waits
    (subst (λ r. Adds r (replicate (length c.args.graph.now) false) marks [] waits) row
    (subst (λ s. Adds shown s marks [] waits) c.requires.none
    (subst (λ z. Adds shown c.args.seen.now marks z waits) c.new-rest.ensures.items c.in_ok-note_uses.ensures)))
    (grind (arith, common_steps, c.requires.none, c.note_uses.auto.seen))

pub bounds-graph-place : goal.bounds-graph-place
bounds-graph-place c = waits_within c.args.graph.now c.args.start c.in-Some.place c.loop-place.seen _ _ c.loop-place.invariant c.in-Some.ensures.items

pub offset_bounds-graph-place : goal.offset_bounds-graph-place
offset_bounds-graph-place c =
    let within : c.in-Some.place < length c.args.graph.now = waits_within c.args.graph.now c.args.start c.in-Some.place c.loop-place.seen _ _ c.loop-place.invariant c.in-Some.ensures.items in
    search (rules, within)

pub note_uses-requires-in-Some : goal.note_uses-requires-in-Some
note_uses-requires-in-Some c =
    let within : c.in-Some.place < length c.args.graph.now = waits_within c.args.graph.now c.args.start c.in-Some.place c.loop-place.seen _ _ c.loop-place.invariant c.in-Some.ensures.items in
    row_within c.args.graph.now c.in-Some.place _ _ c.requires.graph within c.loop-place.invariant.size
    (row_is c.args.graph.now c.in-Some.place _ _ within c.index-graph-place.is c.as_slice-in-Some.ensures)

pub loop-place-preserved : goal.loop-place-preserved
loop-place-preserved c =
    let within : c.in-Some.place < length c.args.graph.now = waits_within c.args.graph.now c.args.start c.in-Some.place c.loop-place.seen _ _ c.loop-place.invariant c.in-Some.ensures.items in
    let row = row_is c.args.graph.now c.in-Some.place _ _ within c.index-graph-place.is c.as_slice-in-Some.ensures in
    let marks = c.note_uses-in-Some.new.seen in
    let waits = c.note_uses-in-Some.new.rest.items in
    search_more c.args.graph.now c.args.start c.in-Some.place c.loop-place.seen marks c.pop.new.self.items waits
    (subst (IsSearch c.args.graph.now c.args.start c.loop-place.seen) c.in-Some.ensures.items c.loop-place.invariant)
    (subst (λ r. Adds r c.loop-place.seen marks c.pop.new.self.items waits) row c.in_ok-note_uses-2.ensures)
    (grind (arith, common_steps, c.note_uses-in-Some.auto.seen, c.loop-place.invariant.size))

pub returns : goal.returns
returns c =
    let empty : c.loop-place.rest.items ≡ [] = search rules in
    search_end c.args.graph.now c.args.start c.loop-place.seen (subst (IsSearch c.args.graph.now c.args.start c.loop-place.seen) empty c.loop-place.invariant)

-- `wish_search::solve::solve` meets its contract: the sheet's arrays are known once 9 and 10 are passed.
use Rattle.fields.specs.Columns.{set_from}
use Rattle.wish_search.specs.SolvedLaws.{widest_ranges, sheet-of, solve_refused, solve_offered, solve_none, solve_found}
use borrow.Author.Rules.{rules}
use Rattle.wish_search.proofs.solve.solve.Goals as goal

pub rooms-room-requires : goal.rooms-room-requires
unfolding set_from
rooms-room-requires c = (c.requires.0.tasks-high, c.requires.1.low)

pub rate-requires : goal.rate-requires
rate-requires c =
    let s = c in
    let er = c.rooms-room.ensures in
    widest_ranges s.args.cores _ _ _ _ s.requires.0 s.requires.1 _ er _ _ c.offsets-widest.ensures

pub returns-in_err-rates : goal.returns-in_err-rates
returns-in_err-rates c =
    let s = c in
    let er = c.rooms-room.ensures in
    let e = rw c.in_err-rates.was at c.rate.ensures in
    solve_refused s.args.cores _ _ _ _ s.requires.0 s.requires.1 _ er _ s.args.offers _ e c.from_residual.result (search rules)

pub returns-then-offers-ne0 : goal.returns-then-offers-ne0
returns-then-offers-ne0 c =
    let s = c in
    let er = c.rooms-room.ensures in
    let e = rw c.in_ok-rates.was at c.rate.ensures in
    solve_offered s.args.cores _ _ _ _ s.requires.0 s.requires.1 _ er _ s.args.offers _ e _ c.if-offers-ne0.true c.at.ensures

pub search-slack-requires : goal.search-slack-requires
search-slack-requires c =
    let s = c in
    let er = c.rooms-room.ensures in
    let e = rw c.in_ok-rates.was at c.rate.ensures in
    ((_, sheet-of s.args.cores _ _ _ _ s.requires.0 s.requires.1 _ er _ s.args.offers _ e), c.first_names-names.ensures _ s.requires.0.tasks-high)

pub returns-then-first_past-tasks : goal.returns-then-first_past-tasks
returns-then-first_past-tasks c =
    let s = c in
    let er = c.rooms-room.ensures in
    let e = rw c.in_ok-rates.was at c.rate.ensures in
    let d = c.search-slack.ensures _ (sheet-of s.args.cores _ _ _ _ s.requires.0 s.requires.1 _ er _ s.args.offers _ e) in
    solve_none s.args.cores _ _ _ _ s.requires.0 s.requires.1 _ er _ s.args.offers _ e c.if-offers-ne0.false _ d _ (rw c.first_past.ensures at c.if-first_past-tasks.true) c.at-then-first_past-tasks.ensures

pub returns : goal.returns
returns c =
    let s = c in
    let er = c.rooms-room.ensures in
    let e = rw c.in_ok-rates.was at c.rate.ensures in
    let d = c.search-slack.ensures _ (sheet-of s.args.cores _ _ _ _ s.requires.0 s.requires.1 _ er _ s.args.offers _ e) in
    solve_found s.args.cores _ _ _ _ s.requires.0 s.requires.1 _ er _ s.args.offers _ e c.if-offers-ne0.false _ d _ (rw c.first_past.ensures at c.if-first_past-tasks.false) c.offsets-offset.ensures

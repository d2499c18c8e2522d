-- The routes, as the router keeps them.
use Rattle.std.specs.Prelude.{List, ℕ, [], codes, Result, Ok, Err}
use Rattle.matchit.specs.Rows.{RowsOf}
use Rattle.matchit.specs.Order.{placed}
use Rattle.matchit.specs.Route.{parse_route, Scan}
use Rattle.matchit.specs.Router.{RouteOf, route_from}
use Rattle.matchit.specs.declared.error.InsertError.{InsertError}
use Rattle.pl_web.specs.declared.routes.Kind.{Kind}
use Rattle.pl_web.specs.declared.routes.Kind.TheVariants.{PutProfile, PutCapture, ListCaptures}
use Rattle.pl_web.specs.declared.routes.Kind.TheVariants.{GetCapture, GetVerdicts, GetHits}

-- with one route more, where it could be read
abbrev pub with_read : Kind → RowsOf (RouteOf Kind) → Result Scan InsertError
    → RowsOf (RouteOf Kind)
with_read kind rows (Ok route) = placed (route.pattern, route_from route kind) rows
with_read kind rows (Err e) = rows

abbrev pub with_route : List ℕ → Kind → RowsOf (RouteOf Kind) → RowsOf (RouteOf Kind)
with_route text kind rows = with_read kind rows (parse_route text)

unfoldable pub all_routes : RowsOf (RouteOf Kind)
all_routes =
    with_route (codes "/benches/{bench}/rules/{rule}") GetHits
    (with_route (codes "/benches/{bench}/captures/{key}/verdicts") GetVerdicts
    (with_route (codes "/benches/{bench}/captures/{key}") GetCapture
    (with_route (codes "/benches/{bench}/captures") ListCaptures
    (with_route (codes "/benches/{bench}/profiles/{profile}/captures/{key}") PutCapture
    (with_route (codes "/benches/{bench}/profiles/{profile}") PutProfile [])))))

-- The routes as the router keeps them, segment by segment.
use Rattle.std.proofs.Common.{◌≡◌, [], ◌∷◌, ◌++◌, refl}
use Rattle.std.specs.Prelude.{Some, None, codes}
use Rattle.matchit.specs.Rows.{RowsOf, param_token}
use Rattle.matchit.specs.Router.{RouteOf}
use Rattle.matchit.proofs.OnLiterals.{matchit_on_literals}
use Rattle.pl_web.specs.Router.{all_routes}
use Rattle.pl_web.specs.declared.routes.Kind.{Kind}
use Rattle.pl_web.specs.declared.routes.Kind.TheVariants.{PutProfile, PutCapture, ListCaptures}
use Rattle.pl_web.specs.declared.routes.Kind.TheVariants.{GetCapture, GetVerdicts, GetHits}
use Rattle.pl_web.proofs.Steps.{under, level}

abbrev pub Route : Type 0
Route = RouteOf Kind

-- ---- the routes

unfoldable pub put_profile_route : Route
put_profile_route = record {
  pattern = codes "/benches/" ++ param_token ∷ codes "/profiles/" ++ param_token ∷ [];
  text = codes "/benches/{bench}/profiles/{profile}";
  names = (10, 15) ∷ (27, 34) ∷ [];
  value = PutProfile;
}

unfoldable pub put_capture_route : Route
put_capture_route = record {
  pattern = codes "/benches/" ++ param_token ∷ codes "/profiles/" ++ param_token
      ∷ codes "/captures/" ++ param_token ∷ [];
  text = codes "/benches/{bench}/profiles/{profile}/captures/{key}";
  names = (10, 15) ∷ (27, 34) ∷ (46, 49) ∷ [];
  value = PutCapture;
}

unfoldable pub list_route : Route
list_route = record {
  pattern = codes "/benches/" ++ param_token ∷ codes "/captures";
  text = codes "/benches/{bench}/captures";
  names = (10, 15) ∷ [];
  value = ListCaptures;
}

unfoldable pub capture_route : Route
capture_route = record {
  pattern = codes "/benches/" ++ param_token ∷ codes "/captures/" ++ param_token ∷ [];
  text = codes "/benches/{bench}/captures/{key}";
  names = (10, 15) ∷ (27, 30) ∷ [];
  value = GetCapture;
}

unfoldable pub verdicts_route : Route
verdicts_route = record {
  pattern = codes "/benches/" ++ param_token ∷ codes "/captures/" ++ param_token
      ∷ codes "/verdicts";
  text = codes "/benches/{bench}/captures/{key}/verdicts";
  names = (10, 15) ∷ (27, 30) ∷ [];
  value = GetVerdicts;
}

unfoldable pub hits_route : Route
hits_route = record {
  pattern = codes "/benches/" ++ param_token ∷ codes "/rules/" ++ param_token ∷ [];
  text = codes "/benches/{bench}/rules/{rule}";
  names = (10, 15) ∷ (24, 28) ∷ [];
  value = GetHits;
}

-- ---- the rows, segment by segment

abbrev pub verdict_rows : RowsOf Route
verdict_rows = under (codes "verdicts") (level (Some verdicts_route) [])

abbrev pub key_rows : RowsOf Route
key_rows = under (param_token ∷ []) (level (Some capture_route) verdict_rows)

abbrev pub upload_rows : RowsOf Route
upload_rows = under (param_token ∷ []) (level (Some put_capture_route) [])

abbrev pub profile_rows : RowsOf Route
profile_rows = under (codes "captures") (level None upload_rows)

abbrev pub name_rows : RowsOf Route
name_rows = under (param_token ∷ []) (level (Some put_profile_route) profile_rows)

abbrev pub capture_rows : RowsOf Route
capture_rows = under (codes "captures") (level (Some list_route) key_rows)

abbrev pub rule_rows : RowsOf Route
rule_rows = under (param_token ∷ []) (level (Some hits_route) [])

abbrev pub bench_rows : RowsOf Route
bench_rows = capture_rows ++ under (codes "profiles") (level None name_rows)
    ++ under (codes "rules") (level None rule_rows)

abbrev pub name_of_bench_rows : RowsOf Route
name_of_bench_rows = under (param_token ∷ []) (level None bench_rows)

abbrev pub benches_rows : RowsOf Route
benches_rows = under (codes "benches") (level None name_of_bench_rows)

pub routes_are : all_routes ≡ under [] (level None benches_rows)
unfolding matchit_on_literals all_routes put_profile_route put_capture_route list_route
    capture_route verdicts_route hits_route
routes_are = refl

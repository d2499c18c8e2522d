-- The hits of a rule in the captures of a bench: for its keys in ascending order, and in each
-- capture for its verdicts in their order, the key and the number of the judged item.
use Rattle.std.specs.Prelude.{ℕ, List, [], ◌∷◌, ◌++◌, map, if◌then◌else◌, Option, Some, None}
use Rattle.std.specs.Prelude.{Result, Ok, Err, option_map}
use Rattle.std.specs.Cmp.Lexicographic.{slice_cmp}
use Rattle.std.specs.Ordering.{is_lt, nat_cmp}
use Rattle.pl_base.specs.declared.rule.Rule.{Rule}
use Rattle.pl_base.specs.declared.stop.Stop.{Stop}
use Rattle.pl_base.specs.declared.verdict.Verdict.{Verdict}
use Rattle.pl_capture.specs.Reading.{reading}
use Rattle.pl_engine.specs.Judged.{rule_verdicts, stop_of_reading}
use Rattle.pl_keeper.specs.Archive.{Archive, profile_at, capture_at}
use Rattle.pl_keeper.specs.Archive.{captures_of}
use Rattle.pl_keeper.specs.Listing.{Found, found_of}
use Rattle.pl_profile.specs.ProfileOf.{profile_of}
use Rattle.pl_profile.specs.Refusal.{number_of}
use Rattle.pl_profile.specs.declared.error.ProfileError.{ProfileError}
use Rattle.pl_profile.specs.declared.profile.Profile.{Profile as PortProfile}
use Rattle.pl_search.specs.declared.error.SearchError.{SearchError}
use Rattle.pl_search.specs.declared.error.SearchError.TheVariants as refused
use Rattle.pl_search.specs.declared.hit.Hit.{Hit}

-- ---- the keys of a bench, in ascending order, byte by byte

-- a key among keys that ascend
abbrev pub placed : List ℕ → List (List ℕ) → List (List ℕ)
placed key [] = key ∷ []
placed key (other ∷ keys) =
    if is_lt (slice_cmp nat_cmp other key) then other ∷ placed key keys else key ∷ other ∷ keys

abbrev pub ascending : List (List ℕ) → List (List ℕ)
ascending [] = []
ascending (key ∷ keys) = placed key (ascending keys)

abbrev pub keys_of : Archive → List ℕ → List (List ℕ)
keys_of a bench = ascending (map (λ c. c.key) (captures_of a bench))

-- ---- one capture

-- a verdict on the capture of a key
abbrev pub hit_of : List ℕ → Verdict → Hit
hit_of key verdict = record { key = key; at = verdict.at }

-- it is judged to its end, or is refused there
abbrev pub by_stop : Rule → (key capture : List ℕ) → PortProfile → Option Stop
    → Result (List Hit) SearchError
by_stop rule key capture profile None =
    Ok (map (hit_of key) (rule_verdicts rule profile (reading capture)))
by_stop rule key capture profile (Some stop) = Err (refused.Capture key stop)

-- its profile is read, or is refused
abbrev pub by_profile : Rule → (key capture : List ℕ) → Result PortProfile ProfileError
    → Result (List Hit) SearchError
by_profile rule key capture (Ok profile) =
    by_stop rule key capture profile (stop_of_reading profile (reading capture))
by_profile rule key capture (Err error) = Err (refused.Profile key (number_of error))

-- a profile that isn't there counts as one without text
abbrev pub text_of : Option (List ℕ) → List ℕ
text_of None = []
text_of (Some text) = text

-- a capture that isn't there has no hits
abbrev pub hits_in : Archive → (bench key : List ℕ) → Rule → Option Found
    → Result (List Hit) SearchError
hits_in a bench key rule None = Ok []
hits_in a bench key rule (Some found) = by_profile rule key found.bytes
    (profile_of (text_of (option_map (λ p. p.bytes) (profile_at a bench found.profile))))

-- the hits in the capture of a key, or why it isn't judged to its end
abbrev pub hits_at : Archive → (bench key : List ℕ) → Rule → Result (List Hit) SearchError
hits_at a bench key rule = hits_in a bench key rule (option_map found_of (capture_at a bench key))

-- ---- all captures of a bench

-- those of one capture and those of the captures behind it; the first refusal counts
abbrev pub joined : Result (List Hit) SearchError → Result (List Hit) SearchError
    → Result (List Hit) SearchError
joined (Err error) more = Err error
joined (Ok hits) (Err error) = Err error
joined (Ok hits) (Ok more) = Ok (hits ++ more)

abbrev pub hits_over : Archive → (bench : List ℕ) → Rule → (keys : List (List ℕ))
    → Result (List Hit) SearchError
hits_over a bench rule [] = Ok []
hits_over a bench rule (key ∷ keys) =
    joined (hits_at a bench key rule) (hits_over a bench rule keys)

abbrev pub hits_of : Archive → (bench : List ℕ) → Rule → Result (List Hit) SearchError
hits_of a bench rule = hits_over a bench rule (keys_of a bench)

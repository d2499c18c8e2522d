-- The compact text of each body.
use Rattle.std.proofs.Common.{◌≡◌, ℕ, List, ◌++◌, codes, append_assoc, refl, ap, sym, ◌∙◌}
use Rattle.std.specs.Prelude.{decimal}
use Rattle.json.specs.Print.{quoted}
use Rattle.serde_json.specs.Data.{number, unsigned, string, object, member, no_members}
use Rattle.serde_json.specs.Written.{compact_text}
use Rattle.serde_json.proofs.OnLiterals.{serde_json_on_literals}
use Rattle.pl_engine.specs.declared.judged.Judged.{Judged}
use Rattle.pl_keeper.specs.Listing.{Line}
use Rattle.pl_report.specs.Json.{verdicts_object}
use Rattle.pl_web.specs.Bodies.{difference_body, error_body, limit_body, number_body, profile_body}
use Rattle.pl_web.specs.Bodies.{item_body, item_limit_body, capture_body, verdicts_body}
use Rattle.pl_search.specs.declared.hit.Hit.{Hit}
use Rattle.pl_web.specs.Bodies.{line_object, hit_object}

-- a text alone
pub string_compact : (word : List ℕ) → compact_text (string word) ≡ quoted word
unfolding serde_json_on_literals
string_compact word = refl

-- a count alone
pub count_compact : (count : ℕ) → compact_text (number (unsigned count)) ≡ decimal count
unfolding serde_json_on_literals
count_compact count = refl

pub error_compact : (name : List ℕ)
    → compact_text (object (member (codes "error") (string name) no_members)) ≡ error_body name
unfolding serde_json_on_literals error_body
error_compact name = simp append_assoc

pub limit_compact : (name : List ℕ) (n : ℕ)
    → compact_text (object (member (codes "error") (string name)
    (member (codes "limit") (number (unsigned n)) no_members)))
    ≡ limit_body name n
unfolding serde_json_on_literals limit_body
limit_compact name n = simp append_assoc

pub number_compact : (name : List ℕ) (n : ℕ)
    → compact_text (object (member (codes "error") (string name)
    (member (codes "number") (number (unsigned n)) no_members)))
    ≡ number_body name n
unfolding serde_json_on_literals number_body
number_compact name n = simp append_assoc

pub difference_compact : (size place sent : ℕ)
    → compact_text (object (member (codes "error") (string (codes "other bytes"))
    (member (codes "length") (number (unsigned size))
    (member (codes "place") (number (unsigned place))
    (member (codes "sent") (number (unsigned sent)) no_members)))))
    ≡ difference_body size place sent
unfolding serde_json_on_literals difference_body
difference_compact size place sent = simp append_assoc

pub profile_compact : (bench profile : List ℕ)
    → compact_text (object (member (codes "bench") (string bench)
    (member (codes "profile") (string profile) no_members)))
    ≡ profile_body bench profile
unfolding serde_json_on_literals profile_body
profile_compact bench profile = simp append_assoc

pub item_compact : (name : List ℕ) (item at : ℕ)
    → compact_text (object (member (codes "error") (string name)
    (member (codes "item") (number (unsigned item))
    (member (codes "number") (number (unsigned at)) no_members))))
    ≡ item_body name item at
unfolding serde_json_on_literals item_body
item_compact name item at = simp append_assoc

pub item_limit_compact : (name : List ℕ) (item limit : ℕ)
    → compact_text (object (member (codes "error") (string name)
    (member (codes "item") (number (unsigned item))
    (member (codes "limit") (number (unsigned limit)) no_members))))
    ≡ item_limit_body name item limit
unfolding serde_json_on_literals item_limit_body
item_limit_compact name item limit = simp append_assoc

pub capture_compact : (bench key profile : List ℕ) (items verdicts : ℕ)
    → compact_text (object (member (codes "bench") (string bench)
    (member (codes "items") (number (unsigned items))
    (member (codes "key") (string key)
    (member (codes "profile") (string profile)
    (member (codes "verdicts") (number (unsigned verdicts)) no_members))))))
    ≡ capture_body bench key profile items verdicts
unfolding serde_json_on_literals capture_body
capture_compact bench key profile items verdicts = simp append_assoc

pub line_compact : (line : Line)
    → compact_text (object (member (codes "key") (string line.key)
    (member (codes "length") (number (unsigned line.length))
    (member (codes "profile") (string line.profile) no_members))))
    ≡ line_object line
unfolding serde_json_on_literals line_object
line_compact line = simp append_assoc

pub hit_compact : (hit : Hit)
    → compact_text (object (member (codes "at") (number (unsigned hit.at))
    (member (codes "key") (string hit.key) no_members)))
    ≡ hit_object hit
unfolding serde_json_on_literals hit_object
hit_compact hit =
    let key = codes ",\"key\":" in
    sym (ap (λ text. codes "{\"at\":" ++ text)
    (append_assoc (decimal hit.at ++ key) (quoted hit.key) (codes "}")
    ∙ append_assoc (decimal hit.at) key (quoted hit.key ++ codes "}")))

pub verdicts_same : (bench key : List ℕ) (judged : Judged)
    → verdicts_object bench key judged
    ≡ verdicts_body bench key judged.items judged.total judged.verdicts.items
unfolding verdicts_object verdicts_body
verdicts_same bench key judged = refl

use Rattle.std.proofs.Common.{◌∙◌, sym, subst, List, ℕ, Option}
use Rattle.pl_cli.specs.Promise.{IsBegun}
use Rattle.pl_cli.specs.Source.{IfReadable, ProfileCause}
use Rattle.pl_cli.proofs.Profiles.{came, came_unopened, came_usual, readable_map, told_text, unread_front}
use Rattle.pl_cli.proofs.Tops.{false_is_true}
use Rattle.pl_cli.proofs.profile.profile_named.Goals as goal

pub returns-then-eq : goal.returns-then-eq
returns-then-eq g c = record { came = came_usual c.usual.result c.usual.ensures (sym c.eq.ensures ∙ c.if-eq.true) }

pub returns-in-Ok : goal.returns-in-Ok
returns-in-Ok g c = record {
  came = came c.profile_in.result
      (record {
        is_file = sym c.eq.ensures ∙ c.if-eq.false;
        opens = record {
          once = c.profile_in.ensures.opens ∙ c.in-Ok.ensures.counted;
          named = λ t o. c.profile_in.ensures.name_kept ∙ c.in-Ok.ensures.named t;
        };
        is_open = c.profile_in.ensures.opened;
        of_text = (
          c.profile_in.ensures.of_text.0,
          λ t. told_text _ _ _ (c.in-Ok.ensures.whole t) c.profile_in.ensures.of_text.1,
          c.profile_in.ensures.of_text.2,
        );
        front = λ t. subst (λ (f : Option (List ℕ)). IfReadable c.profile_in.result (IsBegun f (g.H.Shelf.rest c.profile_in.new.shelf)))
            (c.in-Ok.ensures.whole t).1 (c.profile_in.ensures.begun (c.in-Ok.ensures.whole t).0);
        unread = unread_front c.profile_in.result _ _ _ _ c.in-Ok.ensures.whole c.profile_in.ensures.unread;
        cause = subst (λ (n : ℕ). ProfileCause c.profile_in.result n (g.H.Shelf.faults c.profile_in.new.shelf)) c.in-Ok.ensures.cause.kept c.profile_in.ensures.cause;
        still_told = c.profile_in.ensures.still_told ∙ c.in-Ok.ensures.still_told;
        files = λ other. c.profile_in.ensures.files other ∙ c.in-Ok.ensures.files other;
        still_sure = readable_map c.profile_in.result (λ go s. go (c.in-Ok.ensures.still_sure s)) c.profile_in.ensures.still_sure;
        sure = λ s f. c.profile_in.ensures.never_fails (c.in-Ok.ensures.still_sure s);
      });
}

pub returns-in-Err : goal.returns-in-Err
returns-in-Err g c = record {
  came = came_unopened (sym c.eq.ensures ∙ c.if-eq.false) c.in-Err.ensures.counted c.in-Err.ensures.closed c.in-Err.ensures.cause.failed
      (λ s f. false_is_true (c.in-Err.ensures.never_fails s f));
}

use Rattle.pl_base.specs.declared.link.Dir.TheVariants.{Down, Up}
use Rattle.pl_credit.proofs.credits.Credits.spoiled.Goals as goal

pub returns-in-Down-clause-stands : goal.returns-in-Down-clause-stands
returns-in-Down-clause-stands c = λ past stands. rw c.in-Down.is (record {
  down_is = record { each = stands.down_is.each };
  up_is = c.spoiled.ensures c.args.self.now.profile.vcs Up c.args._at past stands.up_is;
})

pub returns-in-Up-clause-stands : goal.returns-in-Up-clause-stands
returns-in-Up-clause-stands c = λ past stands. rw c.in-Up.is (record {
  down_is =
      c.spoiled-in-Up.ensures c.args.self.now.profile.vcs Down c.args._at past stands.down_is;
  up_is = record { each = stands.up_is.each };
})

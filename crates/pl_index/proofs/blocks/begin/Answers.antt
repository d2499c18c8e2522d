use Rattle.std.proofs.Common.{◌∙◌, refl, arith}
use Rattle.pl_index.proofs.Places.{shifted_blocks, shifted_same, shifted_number, shifted_shifts, shifted_count, shifted_room}
use Rattle.pl_index.proofs.blocks.begin.Goals as goal

pub overflow_cast-len : goal.overflow_cast-len
overflow_cast-len g c =
    omega (arith, shifted_count c.args.blank.now c.args.items.now.items _ c.args.shifts.now.items c.args.block c.len.result c.requires.blocks c.requires.shifts c.requires.block c.requires.new refl (c.len.ensures ∙ c.args.items.now.ok.0))

pub overflow_cast-block : goal.overflow_cast-block
overflow_cast-block g c = omega (arith, c.requires.shifts.few, c.requires.block)

pub push_block-requires : goal.push_block-requires
push_block-requires g c = record {
  room = shifted_room c.args.blank.now c.args.items.now.items _ c.args.shifts.now.items c.args.block _ c.requires.blocks c.requires.shifts c.requires.block c.requires.new refl c.args.items.now.ok.0 _ c.requires.room;
}

pub returns-clause-blocks : goal.returns-clause-blocks
returns-clause-blocks g c =
    shifted_blocks _ _ _ _ _ _ c.requires.blocks c.requires.shifts c.requires.block c.requires.new c.push_block.ensures.items (c.len.ensures ∙ c.args.items.now.ok.0)

pub returns-clause-shifts : goal.returns-clause-shifts
returns-clause-shifts g c =
    shifted_shifts c.args.blank.now _ _ _ _ _ c.requires.blocks c.requires.shifts c.requires.block c.requires.new c.push_block.ensures.items (c.len.ensures ∙ c.args.items.now.ok.0)

pub returns-clause-own : goal.returns-clause-own
returns-clause-own g c =
    shifted_number c.args.blank.now _ _ _ _ _ c.requires.blocks c.requires.shifts c.requires.block c.requires.new c.push_block.ensures.items (c.len.ensures ∙ c.args.items.now.ok.0)

pub returns-clause-same : goal.returns-clause-same
returns-clause-same g c =
    shifted_same _ _ _ _ _ _ c.requires.blocks c.requires.shifts c.requires.block c.requires.new c.push_block.ensures.items (c.len.ensures ∙ c.args.items.now.ok.0)

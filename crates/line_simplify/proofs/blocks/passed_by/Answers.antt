use Rattle.line_simplify.proofs.blocks.passed_by.Goals as goal

-- a point lies within its group, its block and its leaf
pub returns-then-is_passed-clause-passed : goal.returns-then-is_passed-clause-passed
returns-then-is_passed-clause-passed c = λ i p low high covered. c.is_passed.ensures c.if-is_passed.true i p low high (rw c.deref.ensures.value covered.group)

pub returns-then-is_passed-2-clause-passed : goal.returns-then-is_passed-2-clause-passed
returns-then-is_passed-2-clause-passed c = λ i p low high covered. c.is_passed-2.ensures c.if-is_passed-2.true i p low high (rw c.deref-2.ensures.value covered.block)

pub returns-then-is_passed-3-clause-passed : goal.returns-then-is_passed-3-clause-passed
returns-then-is_passed-3-clause-passed c = λ i p low high covered. c.is_passed-3.ensures c.if-is_passed-3.true i p low high (rw c.deref-3.ensures.value covered.leaf)

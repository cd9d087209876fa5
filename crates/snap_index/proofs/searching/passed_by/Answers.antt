use Rattle.snap_index.proofs.searching.passed_by.Goals as goal

-- a number of the order has the extent of its group, of its block and of its leaf
pub returns-then-is_passed-clause-passed : goal.returns-then-is_passed-clause-passed
returns-then-is_passed-clause-passed c = λ lines i s line index low high at is.
    c.is_passed.ensures c.if-is_passed.true i line low high (rw c.deref.ensures.value (index.groups i s line at is))

pub returns-then-is_passed-2-clause-passed : goal.returns-then-is_passed-2-clause-passed
returns-then-is_passed-2-clause-passed c = λ lines i s line index low high at is.
    c.is_passed-2.ensures c.if-is_passed-2.true i line low high (rw c.deref-2.ensures.value (index.blocks i s line at is))

pub returns-then-is_passed-3-clause-passed : goal.returns-then-is_passed-3-clause-passed
returns-then-is_passed-3-clause-passed c = λ lines i s line index low high at is.
    c.is_passed-3.ensures c.if-is_passed-3.true i line low high (rw c.deref-3.ensures.value (index.leaves i s line at is))

use Rattle.worked_serving.proofs.control_requests.asked.Goals as goal

-- the head that was found
pub of-requires : goal.of-requires
of-requires c = (c.in-Whole.size, c.in-Whole.ensures.0, c.in-Whole.ensures.1)

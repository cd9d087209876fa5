mod SteadyLaws

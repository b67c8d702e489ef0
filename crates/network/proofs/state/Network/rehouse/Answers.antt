use Rattle.network.proofs.Rehoused.{line-named, pipes-left, net-housed, net-count, net-gone, net-shown}
use Rattle.network.proofs.state.Network.rehouse.Goals as goal

pub rehouse_line-requires-clause-named : goal.rehouse_line-requires-clause-named
rehouse_line-requires-clause-named g c = line-named _ _ _ _ c.self.view_is c.requires.housed c.requires.empty

pub rehouse-requires-clause-named : goal.rehouse-requires-clause-named
rehouse-requires-clause-named g c =
    pipes-left _ _ _ _ c.self.view_is c.requires.housed c.requires.empty _ _ c.rehouse_line.new.line c.rehouse_line.ensures.moved

pub returns-clause-shown : goal.returns-clause-shown
returns-clause-shown g c =
    net-shown _ _ _ _ c.self.view_is c.requires.housed c.requires.empty _ _ c.rehouse_line.new.line c.rehouse_line.ensures.moved
    _ _ c.rehouse.new.self c.rehouse.ensures.moved c.keys_say_all.ensures.agree c.rehouse_line.ensures.shown c.rehouse.ensures.shown

pub returns-clause-housed : goal.returns-clause-housed
returns-clause-housed g c =
    net-housed _ _ _ _ c.self.view_is c.requires.housed c.requires.empty _ _ c.rehouse_line.new.line c.rehouse_line.ensures.moved
    _ _ c.rehouse.new.self c.rehouse.ensures.moved

pub returns-clause-count : goal.returns-clause-count
returns-clause-count g c =
    net-count _ _ _ _ c.self.view_is c.requires.housed c.requires.empty _ _ c.rehouse_line.new.line c.rehouse_line.ensures.moved
    _ _ c.rehouse.new.self c.rehouse.ensures.moved

pub returns-clause-gone : goal.returns-clause-gone
returns-clause-gone g c =
    net-gone _ _ _ _ c.self.view_is c.requires.housed c.requires.empty _ _ c.rehouse_line.new.line c.rehouse_line.ensures.moved
    _ _ c.rehouse.new.self c.rehouse.ensures.moved

mod Nodes

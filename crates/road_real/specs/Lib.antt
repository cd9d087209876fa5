pub mod TcpDoorsTold
pub mod TcpStates

mod Rooms
mod Shapes
